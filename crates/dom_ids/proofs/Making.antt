-- The entries that all nodes make are those of the document.
use Rattle.std.proofs.Common.{◌≡◌, ◌≢◌, ℕ, ◌≤◌, List, [], ◌∷◌, ◌++◌, is_some, Bool, true, false, cond, not, ◌||◌, ◌&&◌, Option, Some, None, Contains, refl, sym, ap, ◌∙◌, arith, append_assoc, append-nil, eqb}
use Rattle.std.specs.Prelude.{filter, find}
use Rattle.std.specs.List.Sorted.{IsStrictlyIncreasing}
use Rattle.std.specs.Option.{option_or, option_map_or}
use Rattle.std.specs.Ordering.{nat_cmp}
use Rattle.std.specs.BTreeSet.{insert_key}
use Rattle.std.proofs.lemmas.Bool.{false≢true, eqb-true, eq-eqb}
use Rattle.std.proofs.lemmas.List.Kept.{IsStrictlyIncreasing-filter}
use Rattle.ax_base.specs.declared.body.Body.{Body}
use Rattle.ax_base.specs.declared.body.Body.TheVariants.{Words}
use Rattle.ax_base.specs.Characters.{Chars, tokens}
use Rattle.ax_base.specs.Document.{Document, Node, node, has, body, ids, order, has_id, target}
use Rattle.ax_base.specs.Trees.{IsTree}
use Rattle.ax_base.specs.AccessibleNames.{is_label_for}
use Rattle.ax_base.proofs.Lookups.{finds, finds_same, found_is, list_any-insert_key}
use Rattle.ax_base.proofs.Places.{among_ids}
use Rattle.ax_base.proofs.Rising.{rising_same}
use Rattle.ax_dom.specs.Places.{without}
use Rattle.ax_dom.proofs.Copied.{in_order}
use Rattle.dom_ids.specs.declared.change.Change.{Change}
use Rattle.dom_ids.specs.declared.change.Change.TheVariants.{Comes, Goes}
use Rattle.dom_ids.specs.declared.index.Entry.{Entry}
use Rattle.dom_ids.specs.declared.index.IdIndex.{IdIndex}
use Rattle.dom_ids.specs.Changing.{unless_empty, carried_by, named_by, labelled_by, with_node, with_nodes, AreRising}
use Rattle.dom_ids.specs.Index.{no_entry, entry_at, IsIndexOf}
use Rattle.dom_ids.specs.References.{names_text}
use Rattle.dom_ids.proofs.Tests.{mem, mem_from, mem_to, kept_in, kept_cases}

-- a node that passes a test which an empty text fails is there
pub known_by : (d : Document) (p : Body → Bool) → p (Words [] []) ≡ false → (q : ℕ) → p (body d q) ≡ true → has d q ≡ true
known_by d p fails q on = go (node d q) refl
  where
    go : (o : Option Node) → node d q ≡ o → is_some o ≡ true
    go None is = absurd (false≢true (sym fails ∙ ap (λ v. p (option_map_or (λ (e : Node). e.body) v (Words [] []))) (sym is) ∙ on))
    go (Some e) is = refl

-- an empty text refers to nothing
pub names_nothing : (x : Chars) → names_text x (Words [] []) ≡ false
unfolding tokens
names_nothing x = refl

-- what a change leaves alone, and what it makes
same_of : {Y : Type 0} (f : Entry → Entry) (π : Entry → Y) → ((e : Entry) → π (f e) ≡ π e) → (b : Bool) (e : Entry) → π (cond b (f e) e) ≡ π e
same_of f π same true e = same e
same_of f π same false e = refl

made_of : {Y : Type 0} (f : Entry → Entry) (π : Entry → Y) (b : Bool) (e : Entry) → π (cond b (f e) e) ≡ cond b (π (f e)) (π e)
made_of f π true e = refl
made_of f π false e = refl

-- a node in a list by rising id, and behind others, or out of it
abbrev pub risen : Change → List ℕ → ℕ → List ℕ
risen Comes ns n = insert_key nat_cmp ns n
risen Goes ns n = without n ns

abbrev pub lined : Change → List ℕ → ℕ → List ℕ
lined Comes ns n = ns ++ n ∷ []
lined Goes ns n = without n ns

abbrev pub firsts : Change → Option ℕ → Option ℕ → Option ℕ
firsts Comes o p = option_or o p
firsts Goes o p = o

module _ (n : ℕ) (x : Chars) where
  carried_first : (c : Change) (e : Entry) → (carried_by c n x e).first ≡ firsts c e.first (unless_empty x (Some n))
  carried_first Comes e = refl
  carried_first Goes e = refl

  carried_carriers : (c : Change) (e : Entry) → (carried_by c n x e).carriers ≡ risen c e.carriers n
  carried_carriers Comes e = refl
  carried_carriers Goes e = refl

  carried_namers : (c : Change) (e : Entry) → (carried_by c n x e).namers ≡ e.namers
  carried_namers Comes e = refl
  carried_namers Goes e = refl

  carried_labels : (c : Change) (e : Entry) → (carried_by c n x e).labels ≡ e.labels
  carried_labels Comes e = refl
  carried_labels Goes e = refl

module _ (n : ℕ) where
  named_first : (c : Change) (e : Entry) → (named_by c n e).first ≡ e.first
  named_first Comes e = refl
  named_first Goes e = refl

  named_carriers : (c : Change) (e : Entry) → (named_by c n e).carriers ≡ e.carriers
  named_carriers Comes e = refl
  named_carriers Goes e = refl

  named_namers : (c : Change) (e : Entry) → (named_by c n e).namers ≡ risen c e.namers n
  named_namers Comes e = refl
  named_namers Goes e = refl

  named_labels : (c : Change) (e : Entry) → (named_by c n e).labels ≡ e.labels
  named_labels Comes e = refl
  named_labels Goes e = refl

  labelled_first : (c : Change) (e : Entry) → (labelled_by c n e).first ≡ e.first
  labelled_first Comes e = refl
  labelled_first Goes e = refl

  labelled_carriers : (c : Change) (e : Entry) → (labelled_by c n e).carriers ≡ e.carriers
  labelled_carriers Comes e = refl
  labelled_carriers Goes e = refl

  labelled_namers : (c : Change) (e : Entry) → (labelled_by c n e).namers ≡ e.namers
  labelled_namers Comes e = refl
  labelled_namers Goes e = refl

  labelled_labels : (c : Change) (e : Entry) → (labelled_by c n e).labels ≡ lined c e.labels n
  labelled_labels Comes e = refl
  labelled_labels Goes e = refl

module _ (c : Change) (n : ℕ) (b : Body) (x : Chars) (e : Entry) where
  abbrev one : Entry
  one = cond (has_id x b) (carried_by c n x e) e

  abbrev two : Entry
  two = cond (is_label_for x b) (labelled_by c n one) one

  pub first_one : (with_node c n b x e).first ≡ cond (has_id x b) (firsts c e.first (unless_empty x (Some n))) e.first
  first_one =
      same_of (named_by c n) (λ (k : Entry). k.first) (named_first n c) (names_text x b) two
      ∙ same_of (labelled_by c n) (λ (k : Entry). k.first) (labelled_first n c) (is_label_for x b) one
      ∙ made_of (carried_by c n x) (λ (k : Entry). k.first) (has_id x b) e
      ∙ ap (λ o. cond (has_id x b) o e.first) (carried_first n x c e)

  pub carriers_one : (with_node c n b x e).carriers ≡ cond (has_id x b) (risen c e.carriers n) e.carriers
  carriers_one =
      same_of (named_by c n) (λ (k : Entry). k.carriers) (named_carriers n c) (names_text x b) two
      ∙ same_of (labelled_by c n) (λ (k : Entry). k.carriers) (labelled_carriers n c) (is_label_for x b) one
      ∙ made_of (carried_by c n x) (λ (k : Entry). k.carriers) (has_id x b) e
      ∙ ap (λ l. cond (has_id x b) l e.carriers) (carried_carriers n x c e)

  pub labels_one : (with_node c n b x e).labels ≡ cond (is_label_for x b) (lined c e.labels n) e.labels
  labels_one =
      same_of (named_by c n) (λ (k : Entry). k.labels) (named_labels n c) (names_text x b) two
      ∙ made_of (labelled_by c n) (λ (k : Entry). k.labels) (is_label_for x b) one
      ∙ ap (λ l. cond (is_label_for x b) l one.labels) (labelled_labels n c one)
      ∙ ap (λ (l : List ℕ). cond (is_label_for x b) (lined c l n) l) (same_of (carried_by c n x) (λ (k : Entry). k.labels) (carried_labels n x c) (has_id x b) e)

  pub namers_one : (with_node c n b x e).namers ≡ cond (names_text x b) (risen c e.namers n) e.namers
  namers_one =
      made_of (named_by c n) (λ (k : Entry). k.namers) (names_text x b) two
      ∙ ap (λ l. cond (names_text x b) l two.namers) (named_namers n c two)
      ∙ ap (λ (l : List ℕ). cond (names_text x b) (risen c l n) l)
      (same_of (labelled_by c n) (λ (k : Entry). k.namers) (labelled_namers n c) (is_label_for x b) one ∙ same_of (carried_by c n x) (λ (k : Entry). k.namers) (carried_namers n x c) (has_id x b) e)

-- whether a node is among some, after another that passes a test has come or gone
abbrev pub after_change : Change → Bool → Bool → Bool
after_change Comes was test = was || test
after_change Goes was test = was && not test

-- tests put together
spread : (c : Change) (m f s t u : Bool) → (f ≡ true → t ≡ u) → after_change c (after_change c m (f && t)) (s && u) ≡ after_change c m ((f || s) && u)
spread Comes true f s t u same = refl
spread Comes false false s t u same = refl
spread Comes false true s t u same = ap (λ v. v || (s && u)) (same refl) ∙ go s u
  where
    go : (s u : Bool) → (u || (s && u)) ≡ u
    go s true = refl
    go true false = refl
    go false false = refl
spread Goes false f s t u same = refl
spread Goes true false s t u same = refl
spread Goes true true s t u same = ap (λ v. not v && not (s && u)) (same refl) ∙ go s u
  where
    go : (s u : Bool) → (not u && not (s && u)) ≡ not u
    go s true = refl
    go true false = refl
    go false false = refl

or_turned : (f m : Bool) → (f || m) ≡ (m || f)
or_turned true true = refl
or_turned true false = refl
or_turned false true = refl
or_turned false false = refl

or_none : (m : Bool) → (m || false) ≡ m
or_none true = refl
or_none false = refl

and_all : (m : Bool) → m ≡ (m && true)
and_all true = refl
and_all false = refl

and_false : (m : Bool) → (m && false) ≡ false
and_false true = refl
and_false false = refl

mem_behind : (ns : List ℕ) (n q : ℕ) → mem (ns ++ n ∷ []) q ≡ (mem ns q || finds q n)
mem_behind [] n q = or_none (finds q n)
mem_behind (m ∷ ns) n q = ap (λ b. finds q m || b) (mem_behind ns n q) ∙ go (finds q m)
  where
    go : (b : Bool) → (b || (mem ns q || finds q n)) ≡ ((b || mem ns q) || finds q n)
    go true = refl
    go false = refl

mem_without : (ns : List ℕ) (n q : ℕ) → mem (without n ns) q ≡ (mem ns q && not (finds q n))
mem_without [] n q = refl
mem_without (m ∷ ns) n q = go (eqb m n) refl (mem_without ns n q)
  where
    here : (b d : Bool) → finds q m ≡ b → finds q n ≡ d → m ≢ n → (b || (mem ns q && not d)) ≡ ((b || mem ns q) && not d)
    here true true is same apart = absurd (apart (sym (found_is q m is) ∙ found_is q n same))
    here true false is same apart = refl
    here false d is same apart = refl

    gone : (b d : Bool) → finds q m ≡ b → finds q n ≡ d → m ≡ n → (mem ns q && not d) ≡ ((b || mem ns q) && not d)
    gone true true is same at = and_false (mem ns q)
    gone true false is same at = absurd (false≢true (sym same ∙ finds_same q n (found_is q m is ∙ at)))
    gone false d is same at = refl

    go : (b : Bool) → eqb m n ≡ b → mem (without n ns) q ≡ (mem ns q && not (finds q n)) → mem (cond (not b) (m ∷ without n ns) (without n ns)) q ≡ ((finds q m || mem ns q) && not (finds q n))
    go true is tail = tail ∙ gone (finds q m) (finds q n) refl refl (eqb-true m n is)
    go false is tail = ap (λ b. finds q m || b) tail ∙ here (finds q m) (finds q n) refl refl (λ same. false≢true (sym is ∙ eq-eqb m n same))

pub mem_risen : (c : Change) (ns : List ℕ) (n q : ℕ) → mem (risen c ns n) q ≡ after_change c (mem ns q) (finds q n)
mem_risen Comes ns n q = sym (list_any-insert_key q n ns) ∙ or_turned (finds q n) (mem ns q)
mem_risen Goes ns n q = mem_without ns n q

pub mem_lined : (c : Change) (ns : List ℕ) (n q : ℕ) → mem (lined c ns n) q ≡ after_change c (mem ns q) (finds q n)
mem_lined Comes ns n q = mem_behind ns n q
mem_lined Goes ns n q = mem_without ns n q

no_change : (c : Change) (m : Bool) → m ≡ after_change c m false
no_change Comes m = sym (or_none m)
no_change Goes m = and_all m

put_tests : (c : Change) (f m p : Bool) → cond p (after_change c m f) m ≡ after_change c m (f && p)
put_tests c f m true = go f
  where
    go : (f : Bool) → after_change c m f ≡ after_change c m (f && true)
    go true = refl
    go false = refl
put_tests c f m false = no_change c m ∙ go f
  where
    go : (f : Bool) → after_change c m false ≡ after_change c m (f && false)
    go true = refl
    go false = refl

-- a list of rising ids with just the nodes that pass is the list of those
pub rising_is : (d : Document) (p : Body → Bool) → IsTree d → p (Words [] []) ≡ false → (ns : List ℕ) → IsStrictlyIncreasing ns → ((q : ℕ) → mem ns q ≡ p (body d q)) → ns ≡ filter (λ n. p (body d n)) (ids d)
rising_is d p t fails ns rises tells = rising_same ns (filter (λ n. p (body d n)) (ids d)) rises (IsStrictlyIncreasing-filter (λ n. p (body d n)) (ids d) t.rising)
    (λ q inside. let on : p (body d q) ≡ true = sym (tells q) ∙ mem_from ns q inside in kept_in (λ n. p (body d n)) (ids d) q (among_ids d.nodes q (known_by d p fails q on)) on)
    (λ q inside. mem_to ns q (tells q ∙ (kept_cases (λ n. p (body d n)) (ids d) q inside).1))

module _ (d : Document) (x : Chars) where
  -- the first
  abbrev first_among : Chars → List ℕ → Option ℕ
  first_among [] ns = None
  first_among (c ∷ cs) ns = find (λ n. has_id (c ∷ cs) (body d n)) ns

  first_more : (y : Chars) (n : ℕ) (ns : List ℕ) (o : Option ℕ) → option_or (cond (has_id y (body d n)) (option_or o (unless_empty y (Some n))) o) (first_among y ns) ≡ option_or o (first_among y (n ∷ ns))
  first_more [] n ns o = go (has_id [] (body d n)) o
    where
      go : (b : Bool) (o : Option ℕ) → option_or (cond b (option_or o None) o) None ≡ option_or o None
      go true None = refl
      go true (Some k) = refl
      go false None = refl
      go false (Some k) = refl
  first_more (c ∷ cs) n ns o = go (has_id (c ∷ cs) (body d n)) o
    where
      go : (b : Bool) (o : Option ℕ) → option_or (cond b (option_or o (Some n)) o) (find (λ k. has_id (c ∷ cs) (body d k)) ns) ≡ option_or o (cond b (Some n) (find (λ k. has_id (c ∷ cs) (body d k)) ns))
      go true None = refl
      go true (Some k) = refl
      go false None = refl
      go false (Some k) = refl

  none_more : (y : Chars) (o : Option ℕ) → o ≡ option_or o (first_among y [])
  none_more [] None = refl
  none_more [] (Some k) = refl
  none_more (c ∷ cs) None = refl
  none_more (c ∷ cs) (Some k) = refl

  first_all : (ns : List ℕ) (e : Entry) → (with_nodes Comes d ns x e).first ≡ option_or e.first (first_among x ns)
  first_all [] e = none_more x e.first
  first_all (n ∷ ns) e =
      first_all ns (with_node Comes n (body d n) x e)
      ∙ ap (λ o. option_or o (first_among x ns)) (first_one Comes n (body d n) x e)
      ∙ first_more x n ns e.first

  labels_all : (ns : List ℕ) (e : Entry) → (with_nodes Comes d ns x e).labels ≡ e.labels ++ filter (λ n. is_label_for x (body d n)) ns
  labels_all [] e = sym (append-nil e.labels)
  labels_all (n ∷ ns) e =
      labels_all ns (with_node Comes n (body d n) x e)
      ∙ ap (λ l. l ++ filter (λ k. is_label_for x (body d k)) ns) (labels_one Comes n (body d n) x e)
      ∙ go (is_label_for x (body d n))
    where
      go : (b : Bool) → cond b (e.labels ++ n ∷ []) e.labels ++ filter (λ k. is_label_for x (body d k)) ns ≡ e.labels ++ cond b (n ∷ filter (λ k. is_label_for x (body d k)) ns) (filter (λ k. is_label_for x (body d k)) ns)
      go true = append_assoc e.labels (n ∷ []) (filter (λ k. is_label_for x (body d k)) ns)
      go false = refl

  -- whether a node is in a list that takes each node in that passes and comes, and gives it up where it goes
  module _ (π : Entry → List ℕ) (put : Change → List ℕ → ℕ → List ℕ) (p : Body → Bool)
      (tells : (c : Change) (ns : List ℕ) (n q : ℕ) → mem (put c ns n) q ≡ after_change c (mem ns q) (finds q n))
      (one_more : (c : Change) (n : ℕ) (b : Body) (e : Entry) → π (with_node c n b x e) ≡ cond (p b) (put c (π e) n) (π e)) where
    mem_one : (c : Change) (n q : ℕ) (e : Entry) → mem (π (with_node c n (body d n) x e)) q ≡ after_change c (mem (π e) q) (finds q n && p (body d n))
    mem_one c n q e = ap (λ l. mem l q) (one_more c n (body d n) e) ∙ go (p (body d n)) ∙ put_tests c (finds q n) (mem (π e) q) (p (body d n))
      where
        go : (b : Bool) → mem (cond b (put c (π e) n) (π e)) q ≡ cond b (after_change c (mem (π e) q) (finds q n)) (mem (π e) q)
        go true = tells c (π e) n q
        go false = refl

    pub mem_all : (c : Change) (ns : List ℕ) (e : Entry) (q : ℕ) → mem (π (with_nodes c d ns x e)) q ≡ after_change c (mem (π e) q) (mem ns q && p (body d q))
    mem_all c [] e q = no_change c (mem (π e) q)
    mem_all c (n ∷ ns) e q =
        mem_all c ns (with_node c n (body d n) x e) q
        ∙ ap (λ b. after_change c b (mem ns q && p (body d q))) (mem_one c n q e)
        ∙ spread c (mem (π e) q) (finds q n) (mem ns q) (p (body d n)) (p (body d q)) (λ on. ap (λ k. p (body d k)) (sym (found_is q n on)))

    -- of all nodes, by rising id
    pub rising_all : (t : IsTree d) → p (Words [] []) ≡ false → (e new : Entry) → π e ≡ [] → new ≡ with_nodes Comes d (order d) x e → IsStrictlyIncreasing (π new) → π new ≡ filter (λ n. p (body d n)) (ids d)
    rising_all t fails e new none is rises = rising_is d p t fails (π new) rises tells_all
      where
        whole : (q : ℕ) (b : Bool) → p (body d q) ≡ b → (mem (order d) q && b) ≡ b
        whole q true on = ap (λ k. k && true) (mem_from (order d) q (in_order d t (t.level q) q (omega arith) (known_by d p fails q on)))
        whole q false off = and_false (mem (order d) q)

        tells_all : (q : ℕ) → mem (π new) q ≡ p (body d q)
        tells_all q = ap (λ k. mem (π k) q) is ∙ mem_all Comes (order d) e q ∙ ap (λ l. mem l q || (mem (order d) q && p (body d q))) none ∙ whole q (p (body d q)) refl

  target_is : target d x ≡ option_or None (first_among x (order d))
  target_is = go x
    where
      go : (y : Chars) → target d y ≡ option_or None (first_among y (order d))
      go [] = refl
      go (c ∷ cs) = refl

-- what all nodes make of no entry is that of the document
pub made_anew : (d : Document) → IsTree d → (old new : IdIndex) → ((x : Chars) → entry_at old x ≡ no_entry) → AreRising new → ((x : Chars) → entry_at new x ≡ with_nodes Comes d (order d) x (entry_at old x)) → IsIndexOf d new
made_anew d t old new none rises adds x = λ i. record {
  first = (ap (λ (e : Entry). e.first) is ∙ first_all d x (order d) no_entry ∙ sym (target_is d x)) i;
  carriers = rising_all d x (λ (e : Entry). e.carriers) risen (has_id x) mem_risen (λ c n b e. carriers_one c n b x e) t refl no_entry (entry_at new x) refl is (rises x).carriers i;
  namers = rising_all d x (λ (e : Entry). e.namers) risen (names_text x) mem_risen (λ c n b e. namers_one c n b x e) t (names_nothing x) no_entry (entry_at new x) refl is (rises x).namers i;
  labels = (ap (λ (e : Entry). e.labels) is ∙ labels_all d x (order d) no_entry) i;
}
  where
    is : entry_at new x ≡ with_nodes Comes d (order d) x no_entry
    is = adds x ∙ ap (with_nodes Comes d (order d) x) (none x)
