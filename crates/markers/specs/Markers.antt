-- An entry by value, and what the list of entries must be (refusal 23).
use Rattle.std.specs.Prelude.{ℕ, ◌+◌, ◌*◌, ◌%◌, ◌<◌, ◌≡◌, Bool, true, ◌&&◌, List, get_or, drop}
use Rattle.laws.specs.Search.{every, any}
use Rattle.marks.specs.Marks.{marked}
use Rattle.model.specs.Tree.{Array}
use Rattle.model.specs.Numbers as N
use Rattle.model.specs.Numbers.{no_entry, same_entry}
use Rattle.model.specs.Memory.{entry_in, entry_formed, unlike}
use Rattle.markers.specs.declared.Entry.{Entry}

-- what an entry stands for
abbrev pub entry_of : Entry → N.Entry
entry_of e = record { resource = e.resource; out = e.out; left = e.left; right = e.right }

-- the place of an entry's mark among 262,144: equal entries have equal places
unfoldable pub slot_of : N.Entry → ℕ
slot_of e = (40503 * e.resource + 30011 * e.out + 25117 * e.left + 17389 * e.right) % 262144

-- the mark of every entry below k is set
abbrev pub Seen : List ℕ → List ℕ → ℕ → Type 0
Seen seen l k = (j : ℕ) → j < k → marked seen 0 (slot_of (entry_in (drop (4 * j) l))) ≡ true

-- one of the first k entries equals e
unfoldable pub listed : List ℕ → ℕ → N.Entry → Bool
listed l k e = any k λ j. same_entry (entry_in (drop (4 * j) l)) e

-- "a marker entry has a resource, an out and two numbers below its own; no two entries are equal"
unfoldable pub entries_formed : Array → List N.Entry → ℕ → Bool
entries_formed a es k = every k (λ i. entry_formed a i (get_or es i no_entry)) && every k (unlike es)
