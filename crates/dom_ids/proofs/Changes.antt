-- What nodes that come or go change in the entry of a text.
use Rattle.std.proofs.Common.{◌≡◌, ℕ, zero, suc, ◌+◌, ◌-◌, ◌≤◌, ◌<◌, List, [], ◌∷◌, ◌++◌, take, get_or, length, Bool, true, false, cond, not, ◌||◌, ◌&&◌, Option, Some, None, is_some, refl, sym, ap, subst, ◌∙◌, arith, eqb, append_assoc, append-nil}
use Rattle.std.specs.Prelude.{bytes_eq}
use Rattle.std.specs.List.Sorted.{IsStrictlyIncreasing}
use Rattle.std.specs.List.{list_any}
use Rattle.std.specs.Option.{option_map_or}
use Rattle.std.specs.Ordering.{nat_cmp}
use Rattle.std.specs.BTreeSet.{insert_key}
use Rattle.std.specs.Cmp.{nat_eq_equiv}
use Rattle.std.proofs.lemmas.List.{take_all, take_more}
use Rattle.std.proofs.lemmas.List.Folds.{list_any-append}
use Rattle.std.proofs.lemmas.List.Kept.{IsStrictlyIncreasing-filter}
use Rattle.std.proofs.lemmas.Map.Views.{list_any-from_Contains}
use Rattle.std.proofs.lemmas.Slice.Eq.{bytes_eq-Decides}
use Rattle.ax_base.specs.declared.body.Body.{Body}
use Rattle.ax_base.specs.declared.body.Body.TheVariants.{Words}
use Rattle.ax_base.specs.Characters.{Chars, tokens}
use Rattle.ax_base.specs.Document.{Document, Node, node, has, body, has_id}
use Rattle.ax_base.specs.AccessibleNames.{is_label_for}
use Rattle.ax_base.proofs.Lookups.{finds_same, list_any-insert_key, rising-insert_key}
use Rattle.ax_dom.specs.declared.cell.Cell.{Cell}
use Rattle.ax_dom.specs.Among.{is_in}
use Rattle.ax_dom.specs.Places.{without}
use Rattle.ax_dom.specs.NodeMaps.{cell_at, cell_of}
use Rattle.ax_dom.proofs.Halving.{key_there}
use Rattle.ax_dom.proofs.Without.{without_cases, without_none}
use Rattle.dom_ids.specs.declared.change.Change.{Change}
use Rattle.dom_ids.specs.declared.change.Change.TheVariants.{Comes, Goes}
use Rattle.dom_ids.specs.declared.index.Entry.{Entry}
use Rattle.dom_ids.specs.declared.index.IdIndex.{IdIndex}
use Rattle.dom_ids.specs.Changing.{carried_by, named_by, labelled_by, with_node, with_nodes, IsRising, AreRising}
use Rattle.dom_ids.specs.Index.{no_entry, entry_at}
use Rattle.dom_ids.specs.References.{is_text_in, names_text}
use Rattle.dom_ids.proofs.Tests.{mem, mem_to}

same_bytes : (x y : Chars) → bytes_eq x y ≡ true → x ≡ y
same_bytes x y on = (bytes_eq-Decides x y).0 on

-- a list by rising id goes on to rise without a node
rising_without : (n : ℕ) (ns : List ℕ) → IsStrictlyIncreasing ns → IsStrictlyIncreasing (without n ns)
rising_without n ns rises = IsStrictlyIncreasing-filter (λ x. not (eqb x n)) ns rises

-- an entry rises after each of the changes, if it is made
module _ (c : Change) (b : Bool) (n : ℕ) (e new : Entry) (rises : IsRising e) where
  pub rising_carried : (x : Chars) → new ≡ cond b (carried_by c n x e) e → IsRising new
  rising_carried x is = subst IsRising (sym is) (go c b)
    where
      go : (c : Change) (b : Bool) → IsRising (cond b (carried_by c n x e) e)
      go Comes true = record { carriers = rising-insert_key n e.carriers rises.carriers; namers = rises.namers }
      go Goes true = record { carriers = rising_without n e.carriers rises.carriers; namers = rises.namers }
      go c false = rises

  pub rising_labelled : new ≡ cond b (labelled_by c n e) e → IsRising new
  rising_labelled is = subst IsRising (sym is) (go c b)
    where
      go : (c : Change) (b : Bool) → IsRising (cond b (labelled_by c n e) e)
      go Comes true = record { carriers = rises.carriers; namers = rises.namers }
      go Goes true = record { carriers = rises.carriers; namers = rises.namers }
      go c false = rises

  pub rising_named : new ≡ cond b (named_by c n e) e → IsRising new
  rising_named is = subst IsRising (sym is) (go c b)
    where
      go : (c : Change) (b : Bool) → IsRising (cond b (named_by c n e) e)
      go Comes true = record { carriers = rises.carriers; namers = rising-insert_key n e.namers rises.namers }
      go Goes true = record { carriers = rises.carriers; namers = rising_without n e.namers rises.namers }
      go c false = rises

-- to come or go twice is to come or go
named_there : (c : Change) (n : ℕ) (e : Entry) → IsRising e → named_by c n (named_by c n e) ≡ named_by c n e
named_there Comes n e rises = ap (λ (l : List ℕ). record e { namers = l }) (sym (key_there keys n (rising-insert_key n e.namers rises.namers) (sym inside)))
  where
    keys : List ℕ
    keys = insert_key nat_cmp e.namers n

    inside : is_in keys n ≡ true
    inside = list_any-from_Contains nat_eq_equiv n keys (mem_to keys n (sym (list_any-insert_key n n e.namers) ∙ ap (λ b. b || mem e.namers n) (finds_same n n refl)))
named_there Goes n e rises = ap (λ (l : List ℕ). record e { namers = l }) (without_none n (without n e.namers) (λ inside. (without_cases n n e.namers inside).1 refl))

pub named_twice : (c : Change) (a b : Bool) (n : ℕ) (e mid new : Entry) → IsRising e → mid ≡ cond a (named_by c n e) e → new ≡ cond b (named_by c n mid) mid → new ≡ cond (a || b) (named_by c n e) e
named_twice c a b n e mid new rises one two = two ∙ ap (λ m. cond b (named_by c n m) m) one ∙ go a b
  where
    go : (a b : Bool) → cond b (named_by c n (cond a (named_by c n e) e)) (cond a (named_by c n e) e) ≡ cond (a || b) (named_by c n e) e
    go true true = named_there c n e rises
    go true false = refl
    go false true = refl
    go false false = refl

-- the changes for one node
pub node_changed : (c : Change) (n : ℕ) (b : Body) (x : Chars) (e0 e1 e2 e3 e4 : Entry) (p q : Bool) → IsRising e2
    → e1 ≡ cond (has_id x b) (carried_by c n x e0) e0 → e2 ≡ cond (is_label_for x b) (labelled_by c n e1) e1 → e3 ≡ cond p (named_by c n e2) e2 → e4 ≡ cond q (named_by c n e3) e3
    → (p || q) ≡ names_text x b → e4 ≡ with_node c n b x e0
node_changed c n b x e0 e1 e2 e3 e4 p q rises one two three four names =
    named_twice c p q n e2 e3 e4 rises three four
    ∙ (λ i. cond (names i) (named_by c n (labelled i)) (labelled i))
  where
    labelled : e2 ≡ cond (is_label_for x b) (labelled_by c n (cond (has_id x b) (carried_by c n x e0) e0)) (cond (has_id x b) (carried_by c n x e0) e0)
    labelled = two ∙ ap (λ e. cond (is_label_for x b) (labelled_by c n e) e) one

-- what the tokens so far have changed, where those that are left make the first eight whole
pub record NamedSoFar (c : Change) (id : ℕ) (text rest : Chars) (k : ℕ) (old now : IdIndex) : Type 0 where
  pub done : List Chars
  pub whole : done ++ take (8 - k) (tokens rest) ≡ take 8 (tokens text)
  pub value : (x : Chars) → entry_at now x ≡ cond (is_text_in done x) (named_by c id (entry_at old x)) (entry_at old x)

pub none_named : (c : Change) (id : ℕ) (text : Chars) (index : IdIndex) → NamedSoFar c id text text 0 index index
none_named c id text index = record { done = []; whole = refl; value = λ x. refl }

-- where no token is left, or eight were read, all is done
none_left : (c : Change) (id : ℕ) (text rest : Chars) (k : ℕ) (old now : IdIndex) → NamedSoFar c id text rest k old now → take (8 - k) (tokens rest) ≡ []
    → (x : Chars) → entry_at now x ≡ cond (is_text_in (take 8 (tokens text)) x) (named_by c id (entry_at old x)) (entry_at old x)
none_left c id text rest k old now far out x =
    far.value x ∙ ap (λ ts. cond (is_text_in ts x) (named_by c id (entry_at old x)) (entry_at old x)) (sym (append-nil far.done) ∙ ap (λ l. far.done ++ l) (sym out) ∙ far.whole)

pub named_at_end : (c : Change) (id : ℕ) (text rest : Chars) (k : ℕ) (old now : IdIndex) → NamedSoFar c id text rest k old now → tokens rest ≡ []
    → (x : Chars) → entry_at now x ≡ cond (is_text_in (take 8 (tokens text)) x) (named_by c id (entry_at old x)) (entry_at old x)
named_at_end c id text rest k old now far none = none_left c id text rest k old now far (ap (take (8 - k)) none ∙ take_none (8 - k))
  where
    take_none : (n : ℕ) → take {A = Chars} n [] ≡ []
    take_none zero = refl
    take_none (suc m) = refl

pub named_at_eight : (c : Change) (id : ℕ) (text rest : Chars) (k : ℕ) (old now : IdIndex) → NamedSoFar c id text rest k old now → 8 ≤ k
    → (x : Chars) → entry_at now x ≡ cond (is_text_in (take 8 (tokens text)) x) (named_by c id (entry_at old x)) (entry_at old x)
named_at_eight c id text rest k old now far many = let none : 8 - k ≡ 0 = omega arith in none_left c id text rest k old now far (ap (λ n. take n (tokens rest)) none)

pub one_named : (c : Change) (id : ℕ) (text rest token after : Chars) (k : ℕ) (old now new : IdIndex) → AreRising old → NamedSoFar c id text rest k old now → k < 8 → tokens rest ≡ token ∷ tokens after
    → ((x : Chars) → entry_at new x ≡ cond (bytes_eq x token) (named_by c id (entry_at now x)) (entry_at now x)) → NamedSoFar c id text after (k + 1) old new
one_named c id text rest token after k old now new rises far low is one =
    let rest_is : 8 - k ≡ suc (8 - (k + 1)) = omega arith in
    let given : take (8 - k) (tokens rest) ≡ token ∷ take (8 - (k + 1)) (tokens after) = (λ i. take (rest_is i) (is i)) in
    record {
      done = far.done ++ token ∷ [];
      whole = append_assoc far.done (token ∷ []) (take (8 - (k + 1)) (tokens after)) ∙ ap (λ l. far.done ++ l) (sym given) ∙ far.whole;
      value = λ x. named_twice c (is_text_in far.done x) (bytes_eq x token) id (entry_at old x) (entry_at now x) (entry_at new x) (rises x) (far.value x) (one x)
          ∙ ap (λ b. cond b (named_by c id (entry_at old x)) (entry_at old x)) (more x);
    }
  where
    lone : (a b : Bool) → (a || b) ≡ (a || (b || false))
    lone true b = refl
    lone false true = refl
    lone false false = refl

    more : (x : Chars) → (is_text_in far.done x || bytes_eq x token) ≡ is_text_in (far.done ++ token ∷ []) x
    more x = lone (is_text_in far.done x) (bytes_eq x token) ∙ sym (list_any-append (bytes_eq x) far.done (token ∷ []))

-- a node that is not there changes nothing
nothing_there : (d : Document) (n : ℕ) → None ≡ cell_at d n → (o : Option Node) → node d n ≡ o → o ≡ None
nothing_there d n none None is = refl
nothing_there d n none (Some v) is = absurd (no_value (none ∙ ap (λ o. cond (is_some o) (Some (cell_of d n)) None) is))
  where
    no_value : {X : Type 0} {v : X} → None ≡ Some v → ⊥
    no_value e = cc

pub body_nowhere : (d : Document) (n : ℕ) → None ≡ cell_at d n → body d n ≡ Words [] []
body_nowhere d n none = ap (λ o. option_map_or (λ (v : Node). v.body) o (Words [] [])) (nothing_there d n none (node d n) refl)

-- the body of a cell is that of its node
pub cell_body : (d : Document) (n : ℕ) (cell : Cell) → Some cell ≡ cell_at d n → cell.body ≡ body d n
cell_body d n cell is = ap (λ o. option_map_or (λ (c : Cell). c.body) o (body d n)) is ∙ go (has d n)
  where
    go : (b : Bool) → option_map_or (λ (c : Cell). c.body) (cond b (Some (cell_of d n)) None) (body d n) ≡ body d n
    go true = refl
    go false = refl

nothing_changed : (c : Change) (n : ℕ) (x : Chars) (e : Entry) → e ≡ with_node c n (Words [] []) x e
unfolding tokens
nothing_changed c n x e = refl

pub none_changed : (c : Change) (d : Document) (n : ℕ) (x : Chars) (e : Entry) → None ≡ cell_at d n → e ≡ with_node c n (body d n) x e
none_changed c d n x e none = nothing_changed c n x e ∙ ap (λ b. with_node c n b x e) (sym (body_nowhere d n none))

-- what a loop over nodes has changed
pub record ChangedSoFar (c : Change) (d : Document) (ns : List ℕ) (old now : IdIndex) : Type 0 where
  pub rising : AreRising now
  pub value : (x : Chars) → entry_at now x ≡ with_nodes c d ns x (entry_at old x)

behind : (c : Change) (d : Document) (ns : List ℕ) (n : ℕ) (x : Chars) (e : Entry) → with_nodes c d (ns ++ n ∷ []) x e ≡ with_node c n (body d n) x (with_nodes c d ns x e)
behind c d [] n x e = refl
behind c d (m ∷ ns) n x e = behind c d ns n x (with_node c m (body d m) x e)

pub one_more : (ns : List ℕ) (i n : ℕ) → i < length ns → n ≡ get_or ns i n → take (i + 1) ns ≡ take i ns ++ n ∷ []
one_more ns i n low is = take_more ns i n low ∙ ap (λ y. take i ns ++ y ∷ []) (sym is)

pub more_changed : (c : Change) (d : Document) (ns : List ℕ) (old now new : IdIndex) (i n : ℕ) → i < length ns → n ≡ get_or ns i n → ChangedSoFar c d (take i ns) old now → AreRising new
    → ((x : Chars) → entry_at new x ≡ with_node c n (body d n) x (entry_at now x)) → ChangedSoFar c d (take (i + 1) ns) old new
more_changed c d ns old now new i n low is far rises one = record {
  rising = rises;
  value = λ x. one x ∙ ap (with_node c n (body d n) x) (far.value x) ∙ sym (behind c d (take i ns) n x (entry_at old x))
      ∙ ap (λ l. with_nodes c d l x (entry_at old x)) (sym (one_more ns i n low is));
}

pub all_changed : (c : Change) (d : Document) (ns : List ℕ) (old now : IdIndex) (i : ℕ) → length ns ≤ i → ChangedSoFar c d (take i ns) old now → (x : Chars) → entry_at now x ≡ with_nodes c d ns x (entry_at old x)
all_changed c d ns old now i past far x = far.value x ∙ ap (λ l. with_nodes c d l x (entry_at old x)) (take_all i ns past)

-- the entry of one text is taken out, changed and put back
pub changed : (old mid new : IdIndex) (text : Chars) (f : Chars → Entry → Entry) (entry : Entry) → entry ≡ f text (entry_at old text) → ((x : Chars) → bytes_eq x text ≡ false → entry_at mid x ≡ entry_at old x)
    → ((x : Chars) → entry_at new x ≡ cond (bytes_eq x text) entry (entry_at mid x)) → (x : Chars) (b : Bool) → b ≡ bytes_eq x text → entry_at new x ≡ cond b (f x (entry_at old x)) (entry_at old x)
changed old mid new text f entry is others put x b test = put x ∙ go (bytes_eq x text) refl ∙ ap (λ c. cond c (f x (entry_at old x)) (entry_at old x)) (sym test)
  where
    go : (c : Bool) → bytes_eq x text ≡ c → cond c entry (entry_at mid x) ≡ cond c (f x (entry_at old x)) (entry_at old x)
    go true on = is ∙ (let same : x ≡ text = same_bytes x text on in ap (λ y. f y (entry_at old y)) (sym same))
    go false off = others x off

-- nothing rises
pub none_rising : (index : IdIndex) → ((x : Chars) → entry_at index x ≡ no_entry) → AreRising index
none_rising index none x = subst IsRising (sym (none x)) (record { carriers = λ k low. absurd (omega arith); namers = λ k low. absurd (omega arith) })
