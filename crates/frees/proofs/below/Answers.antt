-- `frees::below` meets its contract: by the branches, the record has no child, two or one.
use Prim.Native.Nat.{ℕ}
use mathlib.Core.Path.{◌≡◌, sym, ap, ap₂, ◌∙◌}
use mathlib.Core.Bool.{Bool, ◌&&◌, ◌||◌, or-false}
use lib.ListN.{get_or}
use Rattle.laws.specs.Bits.{bit}
use Rattle.laws.proofs.Bits.{bit-zero, bit-or}
use Rattle.marks.specs.Marks.{word_at}
use Rattle.records.specs.Record.{node_of}
use Rattle.records.specs.Kinds.{is_par, is_choice}
use Rattle.records.proofs.KindLaws.{left-child, right_child}
use Rattle.frees.specs.Frees.{at_child}
use Rattle.frees.proofs.Laws.{child-test}
use Rattle.frees.proofs.below.Goals as goal
use Rattle.frees.proofs.below.Goals.{Else-is_stop}

-- the test of word w of a child's row
abbrev bit_in : Else-is_stop → ℕ → ℕ → Bool
bit_in c k n = let x = c.args in bit (get_or x.frees.now (word_at n x.w) 0) k

-- a test at the children of a record that is no stop
some-child : (c : Else-is_stop) (f : ℕ → Bool) → let r = c.args.r in
    at_child f (node_of r) ≡ f r.left || ((is_par (node_of r) || is_choice (node_of r)) && f r.right)
some-child c f = child-test c.args.r f ∙ rw (sym c.is_stop.ensures ∙ c.if-is_stop.false)

pub returns-then-is_stop : goal.returns-then-is_stop
returns-then-is_stop c k =
    let x = c.args in
    bit-zero k
    ∙ sym (child-test x.r (λ n. bit (get_or x.frees.now (word_at n x.w) 0) k) ∙ rw (sym c.is_stop.ensures ∙ c.if-is_stop.true))

pub word_at-left-requires : goal.word_at-left-requires
word_at-left-requires c =
    (c.requires.1 c.args.r.left (left-child c.args.r (sym c.is_stop.ensures ∙ c.if-is_stop.false)), c.requires.0)

pub word_at-right-requires : goal.word_at-right-requires
word_at-right-requires c =
    (c.requires.1 c.args.r.right (right_child c.args.r (sym c.branches.ensures ∙ c.if-branches.true)), c.requires.0)

pub returns-then-branches : goal.returns-then-branches
returns-then-branches c k =
    bit-or c.word_at-left.result c.word_at-right.result k
    ∙ ap₂ (λ (m n : ℕ). bit m k || bit n k) c.word_at-left.ensures c.word_at-right.ensures
    ∙ sym (some-child (goal.at.returns-then-branches c).Else-is_stop (bit_in (goal.at.returns-then-branches c).Else-is_stop k) ∙ rw (sym c.branches.ensures ∙ c.if-branches.true))

pub returns : goal.returns
returns c k =
    ap (λ (m : ℕ). bit m k) c.word_at-left.ensures
    ∙ sym (some-child (goal.at.returns c).Else-is_stop (bit_in (goal.at.returns c).Else-is_stop k) ∙ rw (sym c.branches.ensures ∙ c.if-branches.false) (or-false _))
