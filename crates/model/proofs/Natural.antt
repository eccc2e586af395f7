-- Two ways to write markers and cells, and a map between them: an attempt made in the one, read in the other, is the attempt made in the
-- other. What the map must keep is asked only of markers that are Fine and of cells that are Good; unfolding keeps both, so a process that
-- compares two of its cells while it unfolds (a match guard) is one case more here.
use Prim.Native.Nat.{ℕ, zero, suc}
use mathlib.Core.Path.{◌≡◌, refl, sym, ap, ap₂, ◌∙◌}
use mathlib.Core.Bool.{Bool, true, false, cond}
use mathlib.Core.List.{List, [], ◌∷◌, ◌++◌, map}
use mathlib.Core.Option.{Option, none, some}
use lib.ListN.{get_or, set, replicate, length-map, get_or-map}
use Rattle.laws.specs.Lists.{All}
use Rattle.laws.proofs.Lists.{All-at}
use Rattle.model.specs.Tree.{Array, Proc, Agent, agent_at, proc_at, is_free}
use Rattle.model.specs.Calculus.{Notation, Choices, Thread, Config, Attempt, Answer, refused, next, cut_from, unfold_proc, bind, keep, unless}
use Rattle.model.specs.Calculus.{on_agents, stays, no_thread, cell, sent_cells, marker_of, receiver_leaves, sender_leaves, stepped, attempt, start}
use Rattle.model.specs.Numbers.{map_thread}

-- ---- lists

map-set : {C D : Type 0} (g : C → D) (e : List C) (n : ℕ) (c : C) → map g (set e n c) ≡ set (map g e) n (g c)
map-set g [] zero c = refl
map-set g [] (suc n) c = refl
map-set g (d ∷ e) zero c = refl
map-set g (d ∷ e) (suc n) c = ap (λ z. g d ∷ z) (map-set g e n c)

map-append : {A B : Type 0} (h : A → B) (c d : List A) → map h (c ++ d) ≡ map h c ++ map h d
map-append h [] d = refl
map-append h (t ∷ c) d = ap (λ z. h t ∷ z) (map-append h c d)

map-bind : {C D : Type 0} (g : C → D) (ys : List ℕ) (cs e : List C) → map g (bind ys cs e) ≡ bind ys (map g cs) (map g e)
unfolding bind
map-bind g [] cs e = refl
map-bind g (y ∷ ys) [] e = refl
map-bind g (y ∷ ys) (c ∷ cs) e = map-set g (bind ys cs e) y c ∙ ap (λ z. set z y (g c)) (map-bind g ys cs e)

map-replicate : {C D : Type 0} (g : C → D) (n : ℕ) (c : C) → map g (replicate n c) ≡ replicate n (g c)
map-replicate g zero c = refl
map-replicate g (suc n) c = ap (λ z. g c ∷ z) (map-replicate g n c)

module _ {C : Type 0} (P : C → Type 0) where
  all_set : (e : List C) (n : ℕ) (c : C) → P c → All P e → All P (set e n c)
  all_set [] zero c k h = tt
  all_set [] (suc n) c k h = tt
  all_set (d ∷ e) zero c k h = (k, h.1)
  all_set (d ∷ e) (suc n) c k h = (h.0, all_set e n c k h.1)

  all-bind : (ys : List ℕ) (cs e : List C) → All P cs → All P e → All P (bind ys cs e)
  unfolding bind
  all-bind [] cs e k h = h
  all-bind (y ∷ ys) [] e k h = h
  all-bind (y ∷ ys) (c ∷ cs) e k h = all_set (bind ys cs e) y c k.0 (all-bind ys cs e k.1 h)

  all_replicate : (n : ℕ) (c : C) → P c → All P (replicate n c)
  all_replicate zero c k = tt
  all_replicate (suc n) c k = (k, all_replicate n c k)

  all-cells : (zs : List ℕ) (d : C) (e : List C) → P d → All P e → All P (map (λ z. get_or e z d) zs)
  all-cells [] d e k h = tt
  all-cells (z ∷ zs) d e k h = (All-at P e z d k h, all-cells zs d e k h)

unfoldable pub map_answer : {X Y C D : Type 0} → (X → Y) → (C → D) → Answer X C → Answer Y D
map_answer f g (refused n) = refused n
map_answer f g (next c) = next (map (map_thread f g) c)

module _ {X Y C D : Type 0} (f : X → Y) (g : C → D) where
  map-keep : (k : ℕ → Bool) (c : Config X C) → map (map_thread f g) (keep k c) ≡ keep k (map (map_thread f g) c)
  unfolding keep
  map-keep k [] = refl
  map-keep k (t ∷ c) = go (k 0) (map-keep (λ i. k (suc i)) c)
    where
      go : (b : Bool) → map (map_thread f g) (keep (λ i. k (suc i)) c) ≡ keep (λ i. k (suc i)) (map (map_thread f g) c)
          → map (map_thread f g) (cond b (t ∷ keep (λ i. k (suc i)) c) (keep (λ i. k (suc i)) c))
          ≡ cond b (map_thread f g t ∷ keep (λ i. k (suc i)) (map (map_thread f g) c)) (keep (λ i. k (suc i)) (map (map_thread f g) c))
      go true h = ap (λ z. map_thread f g t ∷ z) h
      go false h = h

  unless-map : (b c : Bool) (n : ℕ) (k : Answer X C) (l : Answer Y D) → b ≡ c → map_answer f g k ≡ l → map_answer f g (unless b n k) ≡ unless c n l
  unfolding unless map_answer
  unless-map b c n k l e h = rw (← e) (go b)
    where
      go : (b : Bool) → map_answer f g (unless b n k) ≡ unless b n l
      go true = h
      go false = refl

  on_agents-map : (x y : Option Agent) (k : Agent → Agent → Answer X C) (l : Agent → Agent → Answer Y D)
      → ((p q : Agent) → x ≡ some p → map_answer f g (k p q) ≡ l p q) → map_answer f g (on_agents x y k) ≡ on_agents x y l
  unfolding on_agents map_answer
  on_agents-map none y k l h = refl
  on_agents-map (some p) none k l h = refl
  on_agents-map (some p) (some q) k l h = h p q refl

-- ---- a map that agrees

-- threads with a Fine marker and Good cells
abbrev pub GoodThread : {X C : Type 0} → (X → Type 0) → (C → Type 0) → Thread X C → Type 0
GoodThread Fine Good t = Fine t.marker × All Good t.env

module _ {X Y C D : Type 0} (f : X → Y) (g : C → D) (M : Notation X C) (N : Notation Y D) (Fine : X → Type 0) (Good : C → Type 0) where
  pub record Agrees : Type 0 where
    pub empty : f M.empty ≡ N.empty
    pub unheld : g M.unheld ≡ N.unheld
    pub holds : (n : ℕ) (m : X) → Fine m → g (M.holds n m) ≡ N.holds n (f m)
    pub same : (x y : C) → Good x → Good y → M.same x y ≡ N.same (g x) (g y)
    pub fine : Fine M.empty
    pub bare : Good M.unheld
    pub opens : (n : ℕ) (m : X) → Fine m → Good (M.holds n m)

  module _ (agrees : Agrees) where
    -- ---- unfolding

    cell-map : (e : List C) (v : ℕ) → cell N (map g e) v ≡ g (cell M e v)
    cell-map e v = ap (λ d. get_or (map g e) v d) (sym agrees.unheld) ∙ get_or-map g e v M.unheld

    -- cells of a thread compare as what they are read as
    same_map : (d e : List C) → All Good d → All Good e → (x y : ℕ) → M.same (cell M d x) (cell M e y) ≡ N.same (cell N (map g d) x) (cell N (map g e) y)
    same_map d e hd he x y =
        rw (cell-map d x, cell-map e y)
        (agrees.same (cell M d x) (cell M e y) (All-at Good d x M.unheld agrees.bare hd) (All-at Good e y M.unheld agrees.bare he))

    cut-map : (k : ℕ → Bool) (v : ℕ) (e : List C) → map g (cut_from M k v e) ≡ cut_from N k v (map g e)
    unfolding cut_from
    cut-map k v [] = refl
    cut-map k v (c ∷ e) = ap₂ (λ y z. y ∷ z) (go (k v)) (cut-map k (suc v) e)
      where
        go : (b : Bool) → g (cond b c M.unheld) ≡ cond b (g c) N.unheld
        go true = refl
        go false = agrees.unheld

    sent-map : (zs : List ℕ) (e : List C) → map g (map (λ z. cell M e z) zs) ≡ map (λ z. cell N (map g e) z) zs
    sent-map [] e = refl
    sent-map (z ∷ zs) e = ap₂ (λ y ys. y ∷ ys) (sym (cell-map e z)) (sent-map zs e)

    -- naturality of unfolding, over cells that are Good
    pub unfold-map : (ch : Choices) (m : X) (e : List C) (p : Proc) → Fine m → All Good e
        → map (map_thread f g) (unfold_proc M ch m e p) ≡ unfold_proc N ch (f m) (map g e) p
    unfolding unfold_proc
    unfold-map ch m e Proc.stop k h = refl
    unfold-map ch m e (Proc.new n p) k h =
        unfold-map ch m (set e n (M.holds n m)) p k (all_set Good e n (M.holds n m) (agrees.opens n m k) h)
        ∙ ap (λ z. unfold_proc N ch (f m) z p) (map-set g e n (M.holds n m) ∙ ap (set (map g e) n) (agrees.holds n m k))
    unfold-map ch m e (Proc.par p q) k h =
        map-append (map_thread f g) (unfold_proc M ch m e p) (unfold_proc M ch m e q) ∙ ap₂ (λ y z. y ++ z) (unfold-map ch m e p k h) (unfold-map ch m e q k h)
    unfold-map ch m e (Proc.choice i p q) k h = go (ch i) (unfold-map ch m e p k h) (unfold-map ch m e q k h)
      where
        go : (b : Bool) → map (map_thread f g) (unfold_proc M ch m e p) ≡ unfold_proc N ch (f m) (map g e) p
            → map (map_thread f g) (unfold_proc M ch m e q) ≡ unfold_proc N ch (f m) (map g e) q
            → map (map_thread f g) (cond b (unfold_proc M ch m e q) (unfold_proc M ch m e p))
            ≡ cond b (unfold_proc N ch (f m) (map g e) q) (unfold_proc N ch (f m) (map g e) p)
        go true l r = r
        go false l r = l
    unfold-map ch m e (Proc.agent i s x ys p) k h = rw (cut-map (is_free (Proc.agent i s x ys p)) 0 e)

    pub start-map : (a : Array) (ch : Choices) → map (map_thread f g) (start M a ch) ≡ start N a ch
    unfolding start
    start-map a ch =
        unfold-map ch M.empty (replicate a.names M.unheld) (proc_at a 0) agrees.fine (all_replicate Good a.names M.unheld agrees.bare)
        ∙ ap₂ (λ m e. unfold_proc N ch m e (proc_at a 0)) agrees.empty (map-replicate g a.names M.unheld ∙ ap (replicate a.names) agrees.unheld)

    -- ---- attempts

    thread-map : (c : Config X C) (i : ℕ) → get_or (map (map_thread f g) c) i (no_thread N) ≡ map_thread f g (get_or c i (no_thread M))
    thread-map [] i = λ k. record { agent = 0; marker = sym agrees.empty k; env = [] }
    thread-map (t ∷ c) zero = refl
    thread-map (t ∷ c) (suc i) = thread-map c i

    module _ (a : Array) (c : Config X C) (all : All (GoodThread Fine Good) c) (u : Attempt) where
      abbrev R : Thread X C
      R = get_or c u.receiver (no_thread M)

      abbrev S : Thread X C
      S = get_or c u.sender (no_thread M)

      abbrev made : Agent → X
      made p = marker_of M p.sort R S

      both : (i : ℕ) → GoodThread Fine Good (get_or c i (no_thread M))
      both i = All-at (GoodThread Fine Good) c i (no_thread M) (agrees.fine, tt) all

      -- where the receiver's marker is Fine, and read as the other's
      module _ (makes : (p : Agent) → agent_at a R.agent ≡ some p
          → Fine (made p) × (f (made p) ≡ marker_of N p.sort (map_thread f g R) (map_thread f g S))) where
        receiver-map : (p q : Agent) → agent_at a R.agent ≡ some p
            → map (map_thread f g) (receiver_leaves M u.choices R S p q) ≡ receiver_leaves N u.choices (map_thread f g R) (map_thread f g S) p q
        unfolding receiver_leaves
        receiver-map p q e =
            unfold-map u.choices (made p) (bind p.args (sent_cells M S q) R.env) p.body (makes p e).0
            (all-bind Good p.args (sent_cells M S q) R.env (all-cells Good q.args M.unheld S.env agrees.bare (both u.sender).1)
            (both u.receiver).1)
            ∙ ap₂ (λ m z. unfold_proc N u.choices m z p.body) (makes p e).1
            (map-bind g p.args (sent_cells M S q) R.env ∙ ap (λ z. bind p.args z (map g R.env)) (sent-map q.args S.env))

        sender-map : (q : Agent) → map (map_thread f g) (sender_leaves M u.choices S q) ≡ sender_leaves N u.choices (map_thread f g S) q
        unfolding sender_leaves
        sender-map q = let b = both u.sender in unfold-map u.choices S.marker S.env q.body b.0 b.1

        step_map : (p q : Agent) → agent_at a R.agent ≡ some p → map (map_thread f g) (stepped M c u p q) ≡ stepped N (map (map_thread f g) c) u p q
        unfolding stepped
        step_map p q e =
            rw (thread-map c u.receiver, thread-map c u.sender)
            (map-append (map_thread f g) (keep (stays p.sort u.receiver u.sender) c) _
            ∙ ap₂ (λ y z. y ++ z) (map-keep f g (stays p.sort u.receiver u.sender) c)
            (map-append (map_thread f g) (receiver_leaves M u.choices R S p q) (sender_leaves M u.choices S q)
            ∙ ap₂ (λ y z. y ++ z) (receiver-map p q e) (sender-map q)))

        pub attempt-map : map_answer f g (attempt M a c u) ≡ attempt N a (map (map_thread f g) c) u
        unfolding attempt map_answer
        attempt-map =
            rw (thread-map c u.receiver, thread-map c u.sender, length-map c (map_thread f g))
            (unless-map f g _ _ 24 _ _ refl
            (on_agents-map f g (agent_at a R.agent) (agent_at a S.agent) _ _ λ p q e.
            unless-map f g _ _ 25 _ _ refl
            (unless-map f g _ _ 26 _ _ refl
            (unless-map f g _ _ 27 _ _ (same_map R.env S.env (both u.receiver).1 (both u.sender).1 p.channel q.channel)
            (ap next (step_map p q e))))))
