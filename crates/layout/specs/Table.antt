-- The table file: its parts, the table that its bytes stand for, and refusals 13 to 21, 30 and 31 (01, "The table file", "Refusals, in
-- checking order"; 02, requests i and ii).
use Rattle.std.specs.Prelude.{ℕ, zero, suc, ◌+◌, ◌*◌, ◌-◌, ◌/◌, ◌%◌, ◌≤◌, ◌≡◌, Bool, true, false, cond, not, ◌&&◌, ◌||◌, List, Option, Some, None, eqb, leb, ltb, length, get_or}
use Rattle.laws.specs.Search.{Found, clear, first, every}
use Rattle.laws.specs.Bits.{bit}
use Rattle.wire.specs.Numbers.{u16_at, u32_at, word_sum}
use Rattle.model.specs.Tree.{Array, node_at, is_agent, is_new}
use Rattle.model.specs.Formed as F
use Rattle.model.specs.Formed.{refuse}
use Rattle.model.specs.declared.Claim.{Claim}
use Rattle.model.specs.Rules.{Table, row_bits, together, comes_after}
use Rattle.records.specs.declared.Trailer.{Trailer}
use Rattle.records.specs.Record.{array_of}
use Rattle.layout.specs.declared.Form.{Form}
use Rattle.layout.specs.declared.Form.TheVariants.{Pic1, Other}
use Rattle.layout.specs.declared.Sizes.{Sizes}

-- ---- the parts of the file

-- the letters P, I, C, 1 as one number
abbrev pub pic1 : ℕ
pic1 = 80 + 256 * 73 + 65536 * 67 + 16777216 * 49

-- the format that the letters name, if any
abbrev pub table_form : ℕ → Option Form
table_form letters = cond (eqb letters pic1) (Some Pic1) None

-- the format is the one that table files have
abbrev pub is_pic1 : Option Form → Bool
is_pic1 None = false
is_pic1 (Some Pic1) = true
is_pic1 (Some (Other n)) = false

-- what a format says: "rows of 32 bytes", "K of them, at most 24"
abbrev pub row_size : Option Form → ℕ
row_size form = 32

abbrev pub most_balances : Option Form → ℕ
most_balances form = 24

-- "Balances: K of them, each a bound (32 bits) and M weights (16 bits each), padded with two zero bytes if M is odd."
abbrev pub balance_size : Sizes → ℕ
balance_size z = 4 + 2 * (z.nodes + z.nodes % 2)

-- "Flow rows: N rows of 32 bytes", then the balances, then the claims
abbrev pub balance_at : Sizes → ℕ → ℕ
balance_at z k = row_size z.form * z.names + k * balance_size z

-- "Claims: Q of them; each has four 16-bit numbers: agent, most, balance, zero." "A claim's last number becomes a set number" (02, request i).
-- They come in one order, without repeats (02, request ii: refusal 31).
abbrev pub claim_at : Sizes → ℕ → ℕ
claim_at z c = balance_at z z.balances + 8 * c

-- "Trailer, 28 bytes: starts of rows, balances and claims (32 bits each), K, Q (16 each), the array's word sum, the table's
-- word sum (all words before it), the letters `PIC1`."
abbrev pub sizes_of : Trailer → List ℕ → Sizes
sizes_of t s = record {
  nodes = t.nodes;
  names = t.names;
  balances = u16_at s (length s - 16);
  claims = u16_at s (length s - 14);
  form = table_form (u32_at s (length s - 4));
}

-- ---- the table that the bytes stand for

-- "Row v has bit o (byte o / 8, weight 2^(o mod 8)) where name v may hold a channel opened by new o."
abbrev pub row_bit : List ℕ → Sizes → ℕ → ℕ → Bool
row_bit s z v o = bit (get_or s (row_size z.form * v + o / 8) 0) (o % 8)

abbrev pub weight_at : List ℕ → ℕ → ℕ → ℕ
weight_at s at i = u16_at s (at + 4 + 2 * i)

abbrev pub claim_of : List ℕ → ℕ → Claim
claim_of s at = record { agent = u16_at s at; most = u16_at s (at + 2); balance = u16_at s (at + 4); set = u16_at s (at + 6) }

abbrev pub table_of : List ℕ → Sizes → Table
table_of s z = record {
  row = row_bit s z;
  balances = z.balances;
  balance = λ k. record { bound = u32_at s (balance_at z k); weight = weight_at s (balance_at z k) };
  claims = z.claims;
  claim = λ c. claim_of s (claim_at z c);
}

-- ---- the refusals

-- "13. The table is shorter than 28 bytes, longer than 59,516, or no multiple of 4."
abbrev pub table_length_fits : List ℕ → Bool
table_length_fits s = leb 28 (length s) && leb (length s) 59516 && eqb (length s % 4) 0

abbrev pub refusal13 : List ℕ → Found F.Refusal
refusal13 s = refuse 13 0 (table_length_fits s)

-- "14. Its letters are wrong."
abbrev pub refusal14 : Sizes → Found F.Refusal
refusal14 z = refuse 14 0 (is_pic1 z.form)

-- "15. K is above 24 or Q above 256."
abbrev pub table_counts_fit : Sizes → Bool
table_counts_fit z = leb z.balances (most_balances z.form) && leb z.claims 256

abbrev pub refusal15 : Sizes → Found F.Refusal
refusal15 z = refuse 15 0 (table_counts_fit z)

-- "16. Rows don't start at 0, balances or claims don't start where the part before ends, or the trailer doesn't follow the
-- claims to the file's end."
abbrev pub starts_fit : List ℕ → Sizes → Bool
starts_fit s z =
    eqb (u32_at s (length s - 28)) 0
    && eqb (u32_at s (length s - 24)) (balance_at z 0)
    && eqb (u32_at s (length s - 20)) (claim_at z 0)

unfoldable pub parts_fit : List ℕ → Sizes → Bool
parts_fit s z = starts_fit s z && eqb (claim_at z z.claims + 28) (length s)

abbrev pub refusal16 : List ℕ → Sizes → Found F.Refusal
refusal16 s z = refuse 16 0 (parts_fit s z)

-- "17. The table's word sum is wrong."
abbrev pub refusal17 : List ℕ → Found F.Refusal
refusal17 s = refuse 17 0 (eqb (u32_at s (length s - 8)) (word_sum s ((length s - 8) / 4)))

-- "18. It names another array's word sum."
abbrev pub refusal18 : Trailer → List ℕ → Found F.Refusal
refusal18 t s = refuse 18 0 (eqb (u32_at s (length s - 12)) t.sum)

-- "19. A row has a bit for a number that no new opens (row)."
abbrev pub row_fits : Array → List ℕ → Sizes → ℕ → Bool
row_fits a s z v = every row_bits λ o. not (row_bit s z v o) || is_new a o

unfoldable pub refusal19 : Array → List ℕ → Sizes → Found F.Refusal
refusal19 a s z = first z.names λ v. refuse 19 v (row_fits a s z v)

-- "20. A node that is no agent has a weight, or padding isn't zero (balance)."
abbrev pub weights_fit : Array → List ℕ → ℕ → Bool
weights_fit a s at = every a.size λ i. is_agent (node_at a i) || eqb (weight_at s at i) 0

abbrev pub padding_fits : Array → List ℕ → ℕ → Bool
padding_fits a s at = eqb (a.size % 2) 0 || eqb (weight_at s at a.size) 0

unfoldable pub refusal20 : Array → List ℕ → Sizes → Found F.Refusal
refusal20 a s z = first z.balances λ k. refuse 20 k (weights_fit a s (balance_at z k) && padding_fits a s (balance_at z k))

-- "21. A claim's agent is no agent node, its balance isn't below K" (claim); "The zero test in 21 goes" (02, request i).
abbrev pub claim_fits : Array → ℕ → Claim → Bool
claim_fits a k x = is_agent (node_at a x.agent) && ltb x.balance k

unfoldable pub refusal21 : Array → Table → Found F.Refusal
refusal21 a t = first t.claims λ c. refuse 21 c (claim_fits a t.balances (t.claim c))

-- "30 when two claims of a set differ in most or balance, checked after 21 (claim: the later)": claim c differs from none before it
abbrev pub agrees : Claim → Claim → Bool
agrees x y = eqb x.most y.most && eqb x.balance y.balance

unfoldable pub set_fits : Table → ℕ → Bool
set_fits t c = every c λ d. not (together t c d) || agrees (t.claim c) (t.claim d)

unfoldable pub refusal30 : Table → Found F.Refusal
refusal30 t = first t.claims λ c. refuse 30 c (set_fits t c)

-- "31 when a claim doesn't come after its predecessor, checked after 30 (claim)" (02, request ii); claim 0 has none
unfoldable pub in_order : Table → ℕ → Bool
in_order t zero = true
in_order t (suc c) = comes_after (t.claim (suc c)) (t.claim c)

unfoldable pub refusal31 : Table → Found F.Refusal
refusal31 t = first t.claims λ c. refuse 31 c (in_order t c)

-- ---- a table that was read

-- the sizes fit the array and the file
pub record Laid (t : Trailer) (s : List ℕ) (z : Sizes) : Type 0 where
  pub nodes : z.nodes ≡ t.nodes
  pub names : z.names ≡ t.names
  pub few_balances : z.balances ≤ 24
  pub few_claims : z.claims ≤ 256
  pub fills : claim_at z z.claims + 28 ≡ length s

-- the claims lie in the file, and where they stand is a small number
pub record ClaimsLie (s : List ℕ) (z : Sizes) : Type 0 where
  pub nodes : z.nodes ≤ 1024
  pub names : z.names ≤ 256
  pub balances : z.balances ≤ 24
  pub few : z.claims ≤ 256
  pub inside : claim_at z z.claims ≤ length s

-- table s was read beside the array file f, whose trailer says t
pub record IsTable (f : List ℕ) (t : Trailer) (s : List ℕ) (z : Sizes) : Type 0 where
  pub laid : Laid t s z
  pub rows : refusal19 (array_of f t) s z ≡ clear
  pub weights : refusal20 (array_of f t) s z ≡ clear
  pub claims : refusal21 (array_of f t) (table_of s z) ≡ clear
  pub sets : refusal30 (table_of s z) ≡ clear
  pub order : refusal31 (table_of s z) ≡ clear
