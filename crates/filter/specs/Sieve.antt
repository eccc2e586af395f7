-- What a sieve asks of a receiver, and what it says of those that pass.
use Rattle.std.specs.Prelude.{ℕ, ◌≡◌, true, length}
use Rattle.records.specs.Record.{node_of}
use Rattle.records.specs.Kinds.{is_receiver}
use Rattle.pairs.specs.declared.Side.{Side}
use Rattle.pairs.specs.Pairs.{Setting, Held, rule_number}
use Rattle.pairs.specs.Weighing.{beside}
use Rattle.senders.specs.Sets.{every_name, family, Collected, Linked, Gathered}
use Rattle.filter.specs.declared.Sieve.{Sieve}
use Rattle.filter.specs.Filter.{SetSound, Sound}

abbrev pub rule_in : Sieve → ℕ
rule_in s = rule_number s.rule

abbrev pub setting_in : Sieve → Setting
setting_in s = beside s.w.now s.rows.now

-- its sets are those of all senders
pub record Sieves (s : Sieve) : Type 0 where
  pub many_rows : length s.rows.now ≡ 1024
  pub gathered : Gathered (rule_in s) (setting_in s) every_name (family s.sets.now) s.sets.now.links

-- a receiver of the array
abbrev pub Receives : Sieve → Side → Type 0
Receives s p = Held (setting_in s) p × (is_receiver (node_of p.node) ≡ true)

-- no sender of set g breaks the rule with receiver p, whichever sets the links stand for
abbrev pub LinkedSound : Sieve → Side → ℕ → Type 0
LinkedSound s p g =
    let S = setting_in s in
    (sets : ℕ → ℕ) → Linked S.f S.t every_name sets s.sets.now.links → SetSound (rule_in s) S sets p g

-- the same, whichever sets all lists stand for
abbrev pub ListedSound : Sieve → Side → ℕ → Type 0
ListedSound s p g =
    let S = setting_in s in
    (sets : ℕ → ℕ) → Collected (rule_in s) S every_name (family s.sets.now) sets S.t.nodes → Linked S.f S.t every_name sets s.sets.now.links
    → SetSound (rule_in s) S sets p g

-- no sender breaks the rule with receiver p
abbrev pub AllSound : Sieve → Side → Type 0
AllSound s p = Sound (rule_in s) (setting_in s) p
