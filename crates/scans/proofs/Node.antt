-- What a node hands down, counts and uses, by its kind; and so that a node passes.
use Prim.Native.Nat.{ℕ, ◌≤◌, ◌<◌}
use native.Mathlib.Omega.{arith}
use mathlib.Core.Path.{◌≡◌, refl, sym, ◌∙◌}
use mathlib.Core.Logic.{⊎_elim}
use mathlib.Core.Bool.{Bool, true, false, ◌&&◌, ◌||◌, or-false}
use mathlib.Core.List.{List}
use lib.Dec.{eqb, leb, ltb}
use lib.ListN.{length, replicate}
use borrow.Author.Tests.{ltb-true, leb-true}
use Rattle.laws.specs.Search.{every}
use Rattle.laws.specs.Lists.{one, all, has, times}
use Rattle.laws.proofs.Search.{decided, and_split, and-join}
use Rattle.laws.proofs.Lists.{all-has}
use Rattle.model.specs.Tree.{is_agent}
use Rattle.model.specs.Memory.{is_out}
use Rattle.model.specs.Formed.{children, binds, uses, child_fits}
use Rattle.marks.specs.Marks.{HasRow, marked}
use Rattle.marks.proofs.Laws.{marked-none}
use Rattle.records.specs.declared.Record.{Record}
use Rattle.records.specs.Record.{kind_number, args_of, node_of}
use Rattle.records.specs.Kinds.{is_stop, is_new_node, is_par, is_choice, is_receiver}
use Rattle.records.proofs.KindLaws as K
use Rattle.fields.specs.Fields.{shape_fits, fields_zero, rest_zero, unused_zero, children_fit}
use Rattle.counts.specs.Counts.{Grown}
use Rattle.counts.proofs.Laws.{grown-then, times-children, times-binds}
use Rattle.scopes.specs.Scope.{passed, pass_if, HandedDown}
use Rattle.scopes.proofs.Laws.{binds-of, uses-of}
use Rattle.scopes.proofs.Table.{handed-down}
use Rattle.scans.specs.Pass.{record_fits, Ready, Passed}

module _ (r : Record) where
  -- ---- the names that it uses

  module _ (f : ℕ → Bool) where
    pub out-uses : is_agent (node_of r) ≡ true → is_out (node_of r) ≡ true → f r.name ≡ true → all f (args_of r) ≡ true → all f (uses (node_of r)) ≡ true
    unfolding all
    out-uses e o h k = rw (uses-of r, e, o) (and-join h k)

    pub in-uses : is_agent (node_of r) ≡ true → is_out (node_of r) ≡ false → f r.name ≡ true → all f (uses (node_of r)) ≡ true
    unfolding all
    in-uses e o h = rw (uses-of r, e, o) (and-join h refl)

    pub other-uses : is_agent (node_of r) ≡ false → all f (uses (node_of r)) ≡ true
    unfolding all
    other-uses e = rw (uses-of r, e)

  -- ---- the names that it binds

  module _ (opens : is_new_node (node_of r) ≡ false) (binds-none : is_receiver (node_of r) ≡ false) where
    pub none_row : (v : ℕ) → v < 256 → marked (replicate 4 0) 0 v ≡ has (binds (node_of r)) v
    none_row v h = marked-none 4 0 v ∙ sym (binds-of r v ∙ rw (opens, binds-none))

    pub none-counted : (t : List ℕ) → Grown t t (times (binds (node_of r)))
    unfolding one times
    none-counted t v l = let e = rw (opens, binds-none) at (times-binds r v) in omega arith

  module _ (opens : is_new_node (node_of r) ≡ false) (binds-args : is_receiver (node_of r) ≡ true) where
    pub args_row : (row : List ℕ) → ((v : ℕ) → marked row 0 v ≡ has (args_of r) v) → (v : ℕ) → v < 256 → marked row 0 v ≡ has (binds (node_of r)) v
    args_row row e v h = e v ∙ sym (binds-of r v ∙ rw (opens, binds-args))

    pub args-counted : (t u : List ℕ) → Grown t u (times (args_of r)) → Grown t u (times (binds (node_of r)))
    unfolding one
    args-counted t u g v l = let e = rw (opens, binds-args) at (times-binds r v) in omega (arith, g v l)

  module _ (opens : is_new_node (node_of r) ≡ true) (binds-none : is_receiver (node_of r) ≡ false) where
    pub name-row : (row : List ℕ) → ((v : ℕ) → marked row 0 v ≡ eqb v r.name) → (v : ℕ) → v < 256 → marked row 0 v ≡ has (binds (node_of r)) v
    name-row row e v h = e v ∙ sym (binds-of r v ∙ rw (opens, binds-none) (or-false _))

    pub name-counted : (t u : List ℕ) → Grown t u (λ v. one (eqb v r.name)) → Grown t u (times (binds (node_of r)))
    unfolding times
    name-counted t u g v l = let e = rw (opens, binds-none) at (times-binds r v) in omega (arith, g v l)

  -- ---- its children

  module _ (last : is_stop (node_of r) ≡ true) where
    pub none-down : (reach : List ℕ) (j : ℕ) → HandedDown reach reach j (node_of r)
    unfolding has children
    none-down reach j = record { rows = λ i v h. rw (K.stop_is r last) }

    pub none-fields : (t : List ℕ) → Grown t t (times (children (node_of r)))
    unfolding one
    none-fields t v l = let e = rw ((K.stop-one r last).0, last) at (times-children r v) in omega arith

  module _ (goes : is_stop (node_of r) ≡ false) (single : is_par (node_of r) || is_choice (node_of r) ≡ false) where
    pub one_down : (reach : List ℕ) (j : ℕ) (bound : List ℕ) → ((c : ℕ) → has (children (node_of r)) c ≡ true → (j < c) × HasRow reach c)
        → ((v : ℕ) → v < 256 → marked bound 0 v ≡ has (binds (node_of r)) v) → HandedDown reach (passed reach j r.left bound 4) j (node_of r)
    unfolding pass_if
    one_down reach j bound fits b = rw (single, goes) at (handed-down reach j r fits bound b)

    pub one_field : (t u : List ℕ) → Grown t u (λ v. one (eqb v r.left)) → Grown t u (times (children (node_of r)))
    unfolding one
    one_field t u g v l = let e = rw (single, goes) at (times-children r v) in omega (arith, g v l)

  module _ (goes : is_stop (node_of r) ≡ false) (double : is_par (node_of r) || is_choice (node_of r) ≡ true) where
    pub two_down : (reach : List ℕ) (j : ℕ) (bound : List ℕ) → ((c : ℕ) → has (children (node_of r)) c ≡ true → (j < c) × HasRow reach c)
        → ((v : ℕ) → v < 256 → marked bound 0 v ≡ has (binds (node_of r)) v)
        → HandedDown reach (passed (passed reach j r.left bound 4) j r.right bound 4) j (node_of r)
    unfolding pass_if
    two_down reach j bound fits b = rw (double, goes) at (handed-down reach j r fits bound b)

    pub two_fields : (t u w : List ℕ) → length u ≡ length t → Grown t u (λ v. one (eqb v r.left)) → Grown u w (λ v. one (eqb v r.right))
        → Grown t w (times (children (node_of r)))
    two_fields t u w same g h v l =
        let e = rw (double, goes) at (times-children r v) in
        omega (arith, grown-then t u same _ g w _ h v l)

-- ---- children lie above their parent

module _ (m i : ℕ) (r : Record) (fits : children_fit m i r ≡ true) where
  child-above : (c : ℕ) → has (children (node_of r)) c ≡ true → (i < c) × (c < m)
  unfolding children_fit child_fits
  child-above c h =
      let s = and_split (ltb i c) (ltb c m) (all-has (child_fits m i) (children (node_of r)) c fits h) in
      (ltb-true i c s.0, ltb-true c m s.1)

  -- no node up to the parent is its child
  pub no-child : (c : ℕ) → c ≤ i → has (children (node_of r)) c ≡ false
  no-child c l =
      ⊎_elim (λ (h : has (children (node_of r)) c ≡ true). absurd (omega (arith, (child-above c h).0)))
      (λ (h : has (children (node_of r)) c ≡ false). h) (decided (has (children (node_of r)) c))

-- ---- a node that passes the tests of its record

-- what a child needs to be handed down to
abbrev pub Open : ℕ → ℕ → List ℕ → List ℕ → Type 0
Open i c reach parents = (i < c) × HasRow reach c × (c < length parents)

module _ {m i : ℕ} {reach parents binders : List ℕ} (ready : Ready m i reach parents binders) (r : Record) (test : record_fits m i r ≡ true) where
  above : children_fit m i r ≡ true
  above = (and_split (shape_fits r && fields_zero r) _ test).1

  shape : shape_fits r ≡ true
  shape = (and_split (shape_fits r) _ (and_split (shape_fits r && fields_zero r) _ test).0).0

  zero-fields : fields_zero r ≡ true
  zero-fields = (and_split (shape_fits r) _ (and_split (shape_fits r && fields_zero r) _ test).0).1

  pub small-arity : r.arity ≤ 8
  small-arity = leb-true _ 8 (and_split (leb (kind_number r.kind) 6) _ (and_split (leb (kind_number r.kind) 6 && leb r.arity 8) _ shape).0).1

  rows-there : (c : ℕ) → has (children (node_of r)) c ≡ true → (i < c) × HasRow reach c
  rows-there c h = let f = child-above m i r above c h in let e = ready.rows in (f.0, omega (arith, f.1))

  child-open : (c : ℕ) → has (children (node_of r)) c ≡ true → Open i c reach parents
  child-open c h =
      let f = child-above m i r above c h in
      let e = ready.rows in
      let n = ready.nodes in
      (f.0, omega (arith, f.1), omega (arith, f.1))

  pub left_open : is_stop (node_of r) ≡ false → Open i r.left reach parents
  left_open e = child-open r.left (K.left-child r e)

  -- the right child, after the left one was handed down to
  pub right-open : is_par (node_of r) || is_choice (node_of r) ≡ true → (reach' parents' : List ℕ) → length reach' ≡ length reach
      → length parents' ≡ length parents → Open i r.right reach' parents'
  right-open e reach' parents' er ep =
      let o = child-open r.right (K.right_child r e) in
      (o.0, omega (arith, o.1), omega (arith, o.2))

  module _ (rest : every 8 (rest_zero r) ≡ true) where
    zeros : unused_zero r ≡ true
    zeros = and-join zero-fields rest

    -- the record's tests and the rest, one for each kind
    passes : (reach' parents' binders' : List ℕ) → all (marked reach i) (uses (node_of r)) ≡ true → HandedDown reach reach' i (node_of r)
        → Grown parents parents' (times (children (node_of r))) → Grown binders binders' (times (binds (node_of r)))
        → Passed m i r reach parents binders reach' parents' binders'
    passes reach' parents' binders' u d f b = record { shape = shape; zeros = zeros; above = above; used = u; down = d; fields = f; bound = b }

    module _ (agent : is_agent (node_of r) ≡ true) (channel : marked reach i r.name ≡ true) (reach' parents' : List ℕ)
        (counted : Grown parents parents' (λ v. one (eqb v r.left))) where
      goes : is_stop (node_of r) ≡ false
      goes = K.agent-continues r agent

      pub out-passes : is_out (node_of r) ≡ true → all (marked reach i) (args_of r) ≡ true
          → reach' ≡ passed reach i r.left (replicate 4 0) 4 → Passed m i r reach parents binders reach' parents' binders
      out-passes out sent e =
          let none = K.out-binds r agent out in
          passes reach' parents' binders (out-uses r (marked reach i) agent out channel sent)
          (rw e (one_down r goes (K.agent-one r agent) reach i (replicate 4 0) rows-there (none_row r (K.agent-opens r agent) none)))
          (one_field r goes (K.agent-one r agent) parents parents' counted)
          (none-counted r (K.agent-opens r agent) none binders)

      pub in-passes : is_out (node_of r) ≡ false → (row binders' : List ℕ)
          → ((v : ℕ) → marked row 0 v ≡ has (args_of r) v) → Grown binders binders' (times (args_of r))
          → reach' ≡ passed reach i r.left row 4 → Passed m i r reach parents binders reach' parents' binders'
      in-passes other row binders' marks grown e =
          let binds-args = K.in-binds r agent other in
          passes reach' parents' binders' (in-uses r (marked reach i) agent other channel)
          (rw e (one_down r goes (K.agent-one r agent) reach i row rows-there
          (args_row r (K.agent-opens r agent) binds-args row marks)))
          (one_field r goes (K.agent-one r agent) parents parents' counted)
          (args-counted r (K.agent-opens r agent) binds-args binders binders' grown)

    module _ (other : is_agent (node_of r) ≡ false) where
      pub stop-passes : is_stop (node_of r) ≡ true → Passed m i r reach parents binders reach parents binders
      stop-passes last =
          passes reach parents binders (other-uses r (marked reach i) other) (none-down r last reach i) (none-fields r last parents)
          (none-counted r (K.stop-one r last).1 (K.other-binds r other) binders)

      pub new-passes : is_stop (node_of r) ≡ false → is_new_node (node_of r) ≡ true → (row reach' parents' binders' : List ℕ)
          → ((v : ℕ) → marked row 0 v ≡ eqb v r.name) → reach' ≡ passed reach i r.left row 4
          → Grown parents parents' (λ v. one (eqb v r.left)) → Grown binders binders' (λ v. one (eqb v r.name))
          → Passed m i r reach parents binders reach' parents' binders'
      new-passes goes opens row reach' parents' binders' marks e counted grown =
          passes reach' parents' binders' (other-uses r (marked reach i) other)
          (rw e (one_down r goes (K.new-one r opens) reach i row rows-there (name-row r opens (K.other-binds r other) row marks)))
          (one_field r goes (K.new-one r opens) parents parents' counted)
          (name-counted r opens (K.other-binds r other) binders binders' grown)

      pub two-passes : is_stop (node_of r) ≡ false → is_new_node (node_of r) ≡ false → (reach₁ parents₁ reach' parents' : List ℕ)
          → reach₁ ≡ passed reach i r.left (replicate 4 0) 4 → reach' ≡ passed reach₁ i r.right (replicate 4 0) 4
          → length parents₁ ≡ length parents → Grown parents parents₁ (λ v. one (eqb v r.left))
          → Grown parents₁ parents' (λ v. one (eqb v r.right)) → Passed m i r reach parents binders reach' parents' binders
      two-passes goes opens reach₁ parents₁ reach' parents' e f same left right =
          let double = K.rest-branches r other goes opens in
          passes reach' parents' binders (other-uses r (marked reach i) other)
          (rw (f, e) (two_down r goes double reach i (replicate 4 0) rows-there (none_row r opens (K.other-binds r other))))
          (two_fields r goes double parents parents₁ parents' same left right)
          (none-counted r opens (K.other-binds r other) binders)
