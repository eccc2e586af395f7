-- A meeting: what stays, its marker, its threads counted and written, and its step as a result on the lists.
use Prim.Native.Nat.{ℕ, suc, ◌+◌, ◌*◌, ◌-◌, ◌≤◌, ◌<◌, min}
use native.Mathlib.Nat.{zero-mul, zero-add, mul-le-mul}
use native.Mathlib.Numerals.{add-one}
use native.Mathlib.Omega.{arith}
use mathlib.Core.Path.{◌≡◌, refl, sym, ap, ap₂, ◌∙◌, subst}
use mathlib.Core.Logic.{◌≢◌, ⊎_elim}
use mathlib.Core.Bool.{Bool, true, false, cond, not, ◌&&◌, ◌||◌, true≢false}
use mathlib.Core.List.{List, [], ◌∷◌, ◌++◌}
use mathlib.Core.Option.{none, some}
use lib.Dec.{eqb, ltb, leb}
use lib.ListN.{length, get_or, drop, length-append, length-drop}
use lib.Seq.{length-take-le}
use borrow.Author.Tests.{eq-eqb, ne_eqb, leb-true, lt-ltb, le-ltb}
use mir.Val.{bool_byte}
use Rattle.std.specs.Prelude.{Option, Some, None, Result, Ok, Err}
use Rattle.std.specs.Option.{is_some}
use Rattle.laws.specs.Lists.{put}
use Rattle.laws.proofs.Search.{decided, and_split}
use Rattle.laws.proofs.Lists.{All-slice_index}
use Rattle.laws.proofs.Put.{put-from, put_same}
use Rattle.model.specs.Tree.{Array, Agent, agent_at, is_agent, node_at, receives}
use Rattle.model.specs.Calculus.{Thread, Config, Attempt, Answer, next, keep, cut_from, unfold_proc}
use Rattle.model.specs.Calculus.{stays, choices_of, marker_of, receiver_leaves, sender_leaves, stepped, attempt}
use Rattle.model.specs.Numbers.{Entry, position, extend, list_after, nobody, markers_after}
use Rattle.model.specs.Memory.{Memory, words, words_of, numbers_of, entry_numbers, entries_in, threads_in, config_of, entries_of, thread_room, marker_room, is_resource}
use Rattle.model.specs.Memory.{thread_formed, formed, stops, leaves, store, fitted, on_answer, step_in, try, marker_made}
use Rattle.model.specs.Safe.{total}
use Rattle.model.proofs.Threads.{keep_one, keep_two, keep_all, length-bind}
use Rattle.model.proofs.Stepped.{Meet, attempt-next}
use Rattle.model.proofs.Markers.{position-le}
use Rattle.model.proofs.Memory.{slot, length-threads, length-entries, threads-wide, thread-room, marker-room, thread-at, numbers-append, numbers-entries}
use Rattle.model.proofs.Tree.{agent-inside}
use Rattle.model.proofs.Lent.{Sound, formed-sound}
use Rattle.records.specs.declared.Reason.{Reason}
use Rattle.records.specs.declared.Record.{Record}
use Rattle.records.specs.declared.Trailer.{Trailer}
use Rattle.records.specs.Record.{record_of, args_of, sort_of, node_of, array_of}
use Rattle.records.specs.Kinds.{is_receiver}
use Rattle.records.proofs.KindLaws as K
use Rattle.arrays.specs.File.{IsRead}
use Rattle.arrays.specs.Agents.{agent_in, Reads}
use Rattle.arrays.proofs.Agents.{node-is, agent-is, arity-is, small-arity, args-below}
use Rattle.markers.specs.declared.Entry as E
use Rattle.markers.specs.Markers.{entry_of}
use Rattle.unfolds.specs.Unfold.{unfolded, Written}
use Rattle.unfolds.proofs.Laws.{wide-unfolded, written_same, written_both}
use Rattle.threads.specs.Threads.{remains}
use Rattle.ready.specs.Ready.{meeting}
use Rattle.ready.proofs.Attempts.{attempt-made}
use Rattle.lent.specs.declared.Counts.{Counts}
use Rattle.lent.specs.Lent.{lent_of}
use Rattle.steps.specs.declared.Meeting.{Meeting}
use Rattle.steps.specs.declared.NextMarker.{NextMarker}
use Rattle.steps.specs.declared.Fired.{Fired}
use Rattle.steps.specs.Steps.{Makes, Fires, thread_at, Lies, Met, Meets, Binds, meeting_at, entry_at, marker_for, entries_for, with_added, MarkerTold, Bound, advanced}

some_inj : {g h : Agent} → some g ≡ some h → g ≡ h
some_inj e = cc

-- ---- what stays

-- for a receiver, the model's test and the code's
stays-is : (p : Record) → is_receiver (node_of p) ≡ true → (r s i : ℕ) → stays (sort_of p) r s i ≡ remains (is_resource (node_of p)) r s i
unfolding stays remains
stays-is p h r s i =
    ⊎_elim (λ (e : is_resource (node_of p) ≡ true). rw (K.resource-is p e, e) (plain (eqb i s) (not (eqb i r))))
    (λ (e : is_resource (node_of p) ≡ false). rw (K.in_is p h e, e) (swap (eqb i r) (eqb i s))) (decided (is_resource (node_of p)))
  where
    swap : (x y : Bool) → not (x || y) ≡ not y && not x
    swap true true = refl
    swap true false = refl
    swap false true = refl
    swap false false = refl

    plain : (y z : Bool) → not y ≡ not y && (true || z)
    plain true z = refl
    plain false z = refl

keep_same : {X C : Type 0} (f g : ℕ → Bool) (c : Config X C) → ((i : ℕ) → f i ≡ g i) → keep f c ≡ keep g c
unfolding keep
keep_same f g [] h = refl
keep_same f g (t ∷ c) h =
    ap₂ (λ (b : Bool) (z : Config _ _). cond b (t ∷ z) z) (h 0) (keep_same (λ i. f (suc i)) (λ i. g (suc i)) c (λ i. h (suc i)))

ones : {X C : Type 0} (c : Config X C) → total (λ t. 1) c ≡ length c
unfolding total
ones [] = refl
ones (t ∷ c) = let e = ones c in omega arith

length-keep : (b : Bool) (r s : ℕ) (c : Config ℕ ℕ) → r ≢ s → r < length c → s < length c
    → length (keep (remains b r s) c) ≡ length c - cond b 1 2
unfolding remains
length-keep true r s c n hr hs =
    let e = keep_one (λ t. 1) nobody (remains true r s) c s hs (rw (eq-eqb s s refl)) (λ i x. rw (ne_eqb i s x)) in
    let a = ones (keep (remains true r s) c) in
    let b = ones c in
    omega arith
length-keep false r s c n hr hs =
    let e = keep_two (λ t. 1) nobody (remains false r s) c r s n hr hs
    (rw (eq-eqb r r refl, ne_eqb r s n)) (rw (eq-eqb s s refl)) (λ i x y. rw (ne_eqb i r x, ne_eqb i s y)) in
    let a = ones (keep (remains false r s) c) in
    let b = ones c in
    omega arith

-- ---- its marker

module _ {t : Trailer} {l : List ℕ} {n : Counts} {m : Meeting} (x : Met t l n m) (ml : List ℕ) where
  abbrev es : List Entry
  es = entries_in n.markers ml

  abbrev w : ℕ
  w = 2 + t.names

  -- an in keeps its own
  pub in-marker : is_resource (node_of m.p) ≡ false → (y : NextMarker) → y.number ≡ get_or l (m.receiver * w + 1) 0 → y.added ≡ None
      → MarkerTold t l es m y
  unfolding marker_of list_after
  in-marker e y number added =
      let is-in = K.in_is m.p x.receives e in record {
        number = rw is-in number;
        small = let a = x.marker in let b = x.listed in omega (arith, number);
        entries = rw (is-in, added);
      }

  -- a resource has one of its own, listed or new
  module _ (own : is_resource (node_of m.p) ≡ true) (e : E.Entry) (here : entry_of e ≡ entry_at l (m.receiver * w) (m.sender * w)) (y : NextMarker) where
    abbrev at : Entry
    at = entry_of e

    own-is : extend es at ≡ entries_for t l es m
    unfolding list_after
    own-is = rw (K.resource-is m.p own, here)

    own-number : position at es + 1 ≡ marker_for t l es m
    unfolding marker_of words
    own-number = rw (K.resource-is m.p own, ← here) (add-one (position at es))

    pub listed-marker : position at es < n.markers → y.number ≡ position at es + 1 → y.added ≡ None → MarkerTold t l es m y
    unfolding extend
    listed-marker below number added =
        let k = length-entries n.markers ml in
        let found : ltb (position at es) (length es) ≡ true = lt-ltb (position at es) (length es) (omega arith) in record {
          number = number ∙ own-number;
          small = let b = x.listed in omega arith;
          entries = sym own-is ∙ rw (found, added);
        }

    pub new-marker : n.markers ≤ position at es → y.number ≡ n.markers + 1 → y.added ≡ Some e → MarkerTold t l es m y
    unfolding extend
    new-marker past number added =
        let k = length-entries n.markers ml in
        let most = position-le at es in
        let none : ltb (position at es) (length es) ≡ false = le-ltb (position at es) (length es) (omega arith) in
        let same : n.markers ≡ position at es = omega arith in record {
          number = number ∙ ap (λ (i : ℕ). i + 1) same ∙ own-number;
          small = let b = x.listed in omega arith;
          entries = sym own-is ∙ rw (none, added);
        }

-- ---- its threads

module _ {f : List ℕ} {t : Trailer} {l : List ℕ} {n : Counts} {m : Meeting} (x : Meets f t l n m) where
  abbrev W : ℕ
  W = 2 + t.names

  abbrev C : Config ℕ ℕ
  C = threads_in t.names n.threads l

  abbrev stay : Config ℕ ℕ
  stay = keep (remains (is_resource (node_of m.p)) m.receiver m.sender) C

  pub receiver-agent : is_agent (node_of m.p) ≡ true
  receiver-agent = (K.receiver-is m.p x.met.receives).0

  pub sender-agent : is_agent (node_of m.q) ≡ true
  sender-agent = (K.sender-is m.q x.met.sends).0

  pub binds : IsRead f t → Binds t l m
  binds read = record {
    at = x.met.at;
    from = x.met.from;
    arities = x.met.arities;
    few = small-arity read x.reads;
    params = args-below read x.reads receiver-agent;
    args = args-below read x.other sender-agent;
  }

  apart : m.receiver ≢ m.sender
  apart e =
      let z : m.p ≡ m.q = x.reads.is ∙ ap (λ (i : ℕ). record_of f t (thread_at t l i).agent) e ∙ sym x.other.is in
      let s = K.agent-sort m.q sender-agent in
      let r = ap (λ (v : Record). is_receiver (node_of v)) (sym z) ∙ x.met.receives in
      absurd (true≢false (sym x.met.sends ∙ s.1 ∙ ap not (sym s.0 ∙ r)))

  pub two-threads : 2 ≤ n.threads
  two-threads = let a = apart in let b = x.met.receiver in let c = x.met.sender in omega arith

  stay-count : length stay ≡ n.threads - cond (is_resource (node_of m.p)) 1 2
  stay-count =
      let k = length-threads t.names n.threads l in
      length-keep (is_resource (node_of m.p)) m.receiver m.sender C apart (rw k x.met.receiver) (rw k x.met.sender) ∙ rw k

  module _ {near far : List ℕ} (b : Bound t l m near far) (choices : List ℕ) (marker : ℕ) where
    abbrev X : Config ℕ ℕ
    X = unfolded f t choices m.p.left marker near

    abbrev Y : Config ℕ ℕ
    Y = unfolded f t choices m.q.left (thread_at t l m.sender).marker far

    advanced-is : advanced f t choices l n.threads m marker ≡ stay ++ (X ++ Y)
    unfolding advanced
    advanced-is = rw (b.bound, b.sent)

    pub count-is : (mid end : ℕ) → mid ≡ min 257 (n.threads - cond (is_resource (node_of m.p)) 1 2 + length X) → end ≡ min 257 (mid + length Y)
        → end ≡ min 257 (length (advanced f t choices l n.threads m marker))
    count-is mid end e g =
        let k = stay-count in
        let j = length-append stay (X ++ Y) in
        let i = length-append X Y in
        rw advanced-is (omega arith)

    pub length-far : length far ≡ t.names
    length-far =
        ap length b.sent ∙ length-take-le t.names (drop (m.sender * W + 2) l) (let h = x.met.from.inside in rw length-drop (omega arith))

    pub length-near : length near ≡ t.names
    length-near =
        ap length b.bound ∙ length-bind (args_of m.p) _ (thread_at t l m.receiver).env
        ∙ length-take-le t.names (drop (m.receiver * W + 2) l) (let h = x.met.at.inside in rw length-drop (omega arith))

    -- what stays, and the two unfoldings behind it
    pub words_are : (kept mid end : ℕ) (l₀ l₁ l₂ : List ℕ) → kept ≡ n.threads - cond (is_resource (node_of m.p)) 1 2 → l₀ ≡ put 0 (words_of stay) l
        → length l₀ ≡ length l → Written W X l₀ l₁ kept mid → length l₁ ≡ length l₀ → Written W Y l₁ l₂ mid end
        → length (advanced f t choices l n.threads m marker) ≤ thread_room t.names l
        → l₂ ≡ put 0 (words_of (advanced f t choices l n.threads m marker)) l
    words_are kept mid end l₀ l₁ l₂ ek e₀ n₀ d n₁ g room =
        let k = stay-count in
        let c = x.met.few in
        let wide = keep_all (λ y. length y.env ≡ t.names) (remains (is_resource (node_of m.p)) m.receiver m.sender) C
        (threads-wide t.names n.threads l x.met.fits) in
        let stayed : Written W stay l l₀ 0 kept = record { counted = omega arith; placed = λ h i. rw zero-mul e₀ } in
        let all = written_same (written_both t.names wide n₀ stayed
        (written_both t.names (wide-unfolded f t choices m.p.left marker near length-near) n₁ d g)) advanced-is in
        let z = thread-room t.names _ l room in
        rw zero-mul at (all.placed (omega arith) (rw zero-add z.1))

-- ---- its step

module _ {f : List ℕ} {t : Trailer} (l ml : List ℕ) (n : Counts) (read : IsRead f t) (ok : formed (array_of f t) (lent_of l ml n) ≡ true) where
  abbrev A : Array
  A = array_of f t

  abbrev M : Memory
  M = lent_of l ml n

  abbrev ES : List Entry
  ES = entries_of M

  sound : Sound A M
  sound = formed-sound A M ok

  pub fit : (n.threads ≤ 256) × (n.threads * (2 + t.names) ≤ length l)
  fit = thread-room t.names n.threads l sound.threads_fit

  pub markers-fit : n.markers ≤ marker_room ml
  markers-fit = sound.markers_fit

  len : length (config_of A M) ≡ n.threads
  len = length-threads t.names n.threads l

  -- a thread in use has an agent, and its marker is listed
  module _ (i : ℕ) (h : i < n.threads) where
    formed-at : (is_agent (node_at A (thread_at t l i).agent) ≡ true) × ((thread_at t l i).marker ≤ n.markers)
    unfolding thread_formed
    formed-at =
        let e = All-slice_index (λ x. thread_formed A n.markers x ≡ true) (config_of A M) i nobody sound.threads (rw len h) in
        let d = subst (λ (x : Thread ℕ ℕ). thread_formed A n.markers x ≡ true) (thread-at t.names i n.threads l h) e in
        let s = and_split (is_agent (node_at A (thread_at t l i).agent)) _ d in
        (s.0, leb-true _ _ (and_split (leb (thread_at t l i).marker n.markers) _ s.1).0)

    pub agent-at : is_agent (node_at A (thread_at t l i).agent) ≡ true
    agent-at = formed-at.0

    pub lies : Lies t l i
    lies =
        let a = slot t.names i n.threads h in
        let b = mul-le-mul {n₁ = n.threads} {m₁ = 2 + t.names} {n₂ = 256} {m₂ = 258} fit.0 (omega (arith, read.formed.few_names)) in
        record { inside = omega (arith, fit.1); small = omega arith; node = agent-inside A _ agent-at }

    reads : Reads f t (thread_at t l i).agent (record_of f t (thread_at t l i).agent)
    reads = record { below = lies.node; is = refl }

    acts : is_agent (node_of (record_of f t (thread_at t l i).agent)) ≡ true
    acts = ap is_agent (sym (node-is read reads)) ∙ agent-at

    found : agent_at A (get_or (config_of A M) i nobody).agent ≡ some (agent_in A (record_of f t (thread_at t l i).agent))
    found = ap (λ (x : Thread ℕ ℕ). agent_at A x.agent) (thread-at t.names i n.threads l h) ∙ agent-is read reads acts

  module _ (r s : ℕ) (hr : r < n.threads) (hs : s < n.threads)
      (ready : meeting A (get_or (config_of A M) r nobody) (get_or (config_of A M) s nobody) ≡ 0) where
    abbrev m : Meeting
    m = meeting_at f t l r s

    module _ (choices : List ℕ) where
      abbrev u : Attempt
      u = try (choices_of choices) r s

      made : (d : Config ℕ ℕ) × (attempt (words ES) A (config_of A M) u ≡ next d)
      made = attempt-made A ES (config_of A M) u (rw len hr) (rw len hs) ready

      meet : (y : Meet (words ES) A (config_of A M) u) × (made.0 ≡ stepped (words ES) (config_of A M) u y.p y.q)
      meet = attempt-next (words ES) A (config_of A M) u made.0 made.1

      is-p : meet.0.p ≡ agent_in A m.p
      unfolding words
      is-p = some_inj (sym meet.0.receiver ∙ found r hr)

      is-q : meet.0.q ≡ agent_in A m.q
      unfolding words
      is-q = some_inj (sym meet.0.sender ∙ found s hs)

      pub meets : Meets f t l n m
      meets = record {
        met = record {
          fits = fit.1;
          few = fit.0;
          listed = (marker-room n.markers ml markers-fit).0;
          nodes = read.formed.few_nodes;
          receiver = hr;
          sender = hs;
          at = lies r hr;
          from = lies s hs;
          marker = (formed-at r hr).1;
          other = (formed-at s hs).1;
          receives = (K.agent-sort m.p (acts r hr)).0 ∙ ap (λ (y : Agent). receives y.sort) (sym is-p) ∙ meet.0.receives;
          sends = (K.agent-sort m.q (acts s hs)).1 ∙ ap not (ap (λ (y : Agent). receives y.sort) (sym is-q) ∙ meet.0.sends);
          arities = sym (arity-is read (reads r hr)) ∙ ap (λ (y : Agent). length y.args) (sym is-p) ∙ meet.0.arities
              ∙ ap (λ (y : Agent). length y.args) is-q ∙ arity-is read (reads s hs);
        };
        reads = reads r hr;
        other = reads s hs;
      }

      -- the model's step, by words
      stepped-is : stepped (words ES) (config_of A M) u (agent_in A m.p) (agent_in A m.q) ≡ advanced f t choices l n.threads m (marker_for t l ES m)
      unfolding stepped advanced receiver_leaves sender_leaves words unfolded unfold_proc cut_from
      stepped-is =
          rw (thread-at t.names r n.threads l hr, thread-at t.names s n.threads l hs)
          (ap (λ (x : Config ℕ ℕ). x ++ (receiver_leaves (words ES) (choices_of choices) (thread_at t l r) (thread_at t l s) (agent_in A m.p) (agent_in A m.q)
          ++ sender_leaves (words ES) (choices_of choices) (thread_at t l s) (agent_in A m.q)))
          (keep_same (stays (sort_of m.p) r s) _ (config_of A M) (stays-is m.p meets.met.receives r s)))

      abbrev R : Thread ℕ ℕ
      R = get_or (config_of A M) r nobody

      abbrev S : Thread ℕ ℕ
      S = get_or (config_of A M) s nobody

      by-words : {B : Type 0} (g : Thread ℕ ℕ → Thread ℕ ℕ → B) → g R S ≡ g (thread_at t l r) (thread_at t l s)
      by-words g = ap₂ g (thread-at t.names r n.threads l hr) (thread-at t.names s n.threads l hs)

      after_is : markers_after A ES (config_of A M) u ≡ entries_for t l ES m
      unfolding markers_after
      after_is = ap (λ y. elim y [ none ↦ ES | some g ↦ list_after ES g.sort R S ]) (found r hr) ∙ by-words (list_after ES (sort_of m.p))

      pub marker-is : marker_made A M u ≡ marker_for t l ES m
      unfolding marker_made
      marker-is = ap (λ y. elim y [ none ↦ 0 | some g ↦ marker_of (words ES) g.sort R S ]) (found r hr) ∙ by-words (marker_of (words ES) (sort_of m.p))

      pub step_is : step_in A M u ≡ fitted A M (advanced f t choices l n.threads m (marker_for t l ES m)) (entries_for t l ES m)
      unfolding step_in on_answer
      step_is =
          ap₂ (λ (x : List Entry) (y : Answer ℕ ℕ). on_answer A M x y) after_is
          (made.1 ∙ ap next (meet.1 ∙ ap₂ (stepped (words ES) (config_of A M) u) is-p is-q ∙ stepped-is))

      pub fires : (e : Result Fired Reason) (l' ml' : List ℕ) → Makes f t choices l ml n m e l' ml' → Fires f t choices l ml n r s e l' ml'
      fires (Err k) l' ml' h = ((step_is ∙ h.0.0, h.0.1, h.0.2), tt)
      fires (Ok x) l' ml' h = (step_is ∙ h.0, h.1 ∙ sym marker-is)

-- ---- what becomes of it

module _ (a : Array) (l ml : List ℕ) (n : Counts) (c : Config ℕ ℕ) (es : List Entry) where
  pub crowded : leb (length c) (thread_room a.names l) ≡ false → fitted a (lent_of l ml n) c es ≡ stops 28
  unfolding fitted
  crowded e = rw e

  module _ (few : leb (length c) (thread_room a.names l) ≡ true) where
    pub unlisted : leb (length es) (marker_room ml) ≡ false → fitted a (lent_of l ml n) c es ≡ stops 29
    unfolding fitted
    unlisted e = rw (few, e)

    pub leaves-both : leb (length es) (marker_room ml) ≡ true → (l' ml' : List ℕ) (k : Counts) → l' ≡ put 0 (words_of c) l → k.threads ≡ length c
        → ml' ≡ put 0 (numbers_of es) ml → k.markers ≡ length es → fitted a (lent_of l ml n) c es ≡ leaves (lent_of l' ml' k)
    unfolding fitted store
    leaves-both e l' ml' k el ek em ej =
        rw (few, e) (λ i. leaves record { threads = sym el i; thread_count = sym ek i; markers = sym em i; marker_count = sym ej i })

-- the entries after the step in their list: as they were, or with one more
module _ {t : Trailer} {l : List ℕ} (ml : List ℕ) (n : Counts) {m : Meeting} {x : NextMarker}
    (fits : n.markers ≤ marker_room ml) (y : MarkerTold t l (entries_in n.markers ml) m x) where
  abbrev old : List Entry
  old = entries_in n.markers ml

  -- how many there are
  pub entries-count : length (entries_for t l old m) ≡ n.markers + bool_byte (is_some x.added)
  entries-count = ap length y.entries ∙ go x.added
    where
      k : length old ≡ n.markers
      k = length-entries n.markers ml

      go : (o : Option E.Entry) → length (with_added old o) ≡ n.markers + bool_byte (is_some o)
      go None = let h = k in omega arith
      go (Some e) = let h = k in let a = length-append old (entry_of e ∷ []) in omega arith

  pub numbers-kept : x.added ≡ None → ml ≡ put 0 (numbers_of (entries_for t l old m)) ml
  numbers-kept e =
      let b = (marker-room n.markers ml fits).1 in
      rw (y.entries, e, numbers-entries n.markers ml b) (sym (put_same 0 (4 * n.markers) ml (omega arith)))

  pub numbers-added : (e : E.Entry) → x.added ≡ Some e → n.markers + 1 ≤ marker_room ml
      → put (4 * n.markers) (entry_numbers (entry_of e)) ml ≡ put 0 (numbers_of (entries_for t l old m)) ml
  unfolding numbers_of
  numbers-added d e most =
      let b = (marker-room n.markers ml fits).1 in
      let z = (marker-room (n.markers + 1) ml most).1 in
      rw (y.entries, e, numbers-append, numbers-entries n.markers ml b) (put-from (4 * n.markers) (entry_numbers (entry_of d)) ml (omega arith))
