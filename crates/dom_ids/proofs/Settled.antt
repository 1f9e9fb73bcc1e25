-- Texts that are settled have the entries of the document.
use Rattle.std.proofs.Common.{◌≡◌, ℕ, ◌+◌, ◌<◌, ◌≤◌, List, [], ◌∷◌, ◌++◌, take, get_or, length, Bool, true, false, cond, ◌||◌, Option, Some, None, Contains, refl, sym, ap, subst, ◌∙◌, arith}
use Rattle.std.specs.Prelude.{filter, find, bytes_eq}
use Rattle.std.specs.List.{list_any}
use Rattle.std.proofs.lemmas.Bool.{false≢true}
use Rattle.std.proofs.lemmas.List.{take_all}
use Rattle.std.proofs.lemmas.List.Folds.{list_any-append}
use Rattle.std.proofs.lemmas.Slice.Eq.{bytes_eq-Decides}
use Rattle.ax_base.specs.declared.body.Body.{Body}
use Rattle.ax_base.specs.declared.body.Body.TheVariants.{Words}
use Rattle.ax_base.specs.Characters.{Chars}
use Rattle.ax_base.specs.Document.{Document, body, has, ids, order, has_id, target}
use Rattle.ax_base.specs.AccessibleNames.{is_label_for}
use Rattle.ax_base.specs.Trees.{IsTree}
use Rattle.ax_base.proofs.Places.{among_ids}
use Rattle.ax_dom.specs.Among.{is_in}
use Rattle.ax_dom.proofs.Copied.{in_order as known_in_order}
use Rattle.dom_ids.specs.declared.index.Entry.{Entry}
use Rattle.dom_ids.specs.declared.index.IdIndex.{IdIndex}
use Rattle.dom_ids.specs.Changing.{unless_empty}
use Rattle.dom_ids.specs.Index.{carriers, namers, labels, entry_of, entry_at}
use Rattle.dom_ids.specs.Ordering.{in_order, first_in}
use Rattle.dom_ids.specs.Settling.{is_carried, is_carried_among, HasItsNodes, HaveTheirNodes, AreSettled}
use Rattle.dom_ids.proofs.Changes.{one_more}
use Rattle.dom_ids.proofs.Making.{known_by}
use Rattle.dom_ids.proofs.Staying.{first_of_filter}
use Rattle.dom_ids.proofs.Tests.{mem, mem_from, mem_to, is_in_mem, kept_in, kept_cases}

-- whether a node is among those of a list that pass a test
among_passing : (p : ℕ → Bool) (ns : List ℕ) (q : ℕ) → (p q ≡ true → Contains ns q) → is_in (filter p ns) q ≡ p q
among_passing p ns q there = is_in_mem (filter p ns) q ∙ go (p q) refl (mem (filter p ns) q) refl
  where
    go : (b : Bool) → p q ≡ b → (m : Bool) → mem (filter p ns) q ≡ m → mem (filter p ns) q ≡ b
    go true on m is = mem_from (filter p ns) q (kept_in p ns q (there on) on)
    go false off true is = absurd (false≢true (sym off ∙ (kept_cases p ns q (mem_to (filter p ns) q is)).1))
    go false off false is = is

pub ids_tell : (d : Document) (p : Body → Bool) → p (Words [] []) ≡ false → (q : ℕ) → is_in (filter (λ n. p (body d n)) (ids d)) q ≡ p (body d q)
ids_tell d p fails q = among_passing (λ n. p (body d n)) (ids d) q (λ on. among_ids d.nodes q (known_by d p fails q on))

pub order_tells : (d : Document) → IsTree d → (p : Body → Bool) → p (Words [] []) ≡ false → (q : ℕ) → is_in (filter (λ n. p (body d n)) (order d)) q ≡ p (body d q)
order_tells d t p fails q = among_passing (λ n. p (body d n)) (order d) q (λ on. known_in_order d t (t.level q) q (omega arith) (known_by d p fails q on))

-- tests that agree keep the same, and find the same
filter_same : (p q : ℕ → Bool) (xs : List ℕ) → ((n : ℕ) → p n ≡ q n) → filter p xs ≡ filter q xs
filter_same p q [] same = refl
filter_same p q (x ∷ xs) same = λ i. cond (same x i) (x ∷ filter_same p q xs same i) (filter_same p q xs same i)

find_same : (p q : ℕ → Bool) (xs : List ℕ) → ((n : ℕ) → p n ≡ q n) → find p xs ≡ find q xs
find_same p q [] same = refl
find_same p q (x ∷ xs) same = λ i. cond (same x i) (Some x) (find_same p q xs same i)

-- the first element is the first of those that have the text
pub first_is : (d : Document) (x : Chars) → unless_empty x (first_in (in_order d (carriers d x))) ≡ target d x
first_is d [] = refl
first_is d (c ∷ cs) =
    first_of_filter (is_in (carriers d (c ∷ cs))) (order d)
    ∙ find_same (is_in (carriers d (c ∷ cs))) (λ n. has_id (c ∷ cs) (body d n)) (order d) (ids_tell d (has_id (c ∷ cs)) refl)

pub settled_entry : (d : Document) (x : Chars) (old : Entry) → HasItsNodes d x old → (first : Option ℕ) (ordered : List ℕ) → first ≡ unless_empty x (first_in (in_order d old.carriers)) → ordered ≡ in_order d old.labels
    → record old { first = first; labels = ordered } ≡ entry_of d x
settled_entry d x old nodes first ordered first_found labels_found = λ i. record {
  first = (first_found ∙ ap (λ l. unless_empty x (first_in (in_order d l))) nodes.carriers_are ∙ first_is d x) i;
  carriers = nodes.carriers_are i;
  namers = nodes.namers_are i;
  labels = (labels_found ∙ filter_same (is_in old.labels) (λ n. is_label_for x (body d n)) (order d) nodes.labels_are) i;
}

-- what an entry has is in the document
pub labels_known : (d : Document) (x : Chars) (e : Entry) → HasItsNodes d x e → (n : ℕ) → Contains e.labels n → has d n ≡ true
labels_known d x e nodes n inside = known_by d (is_label_for x) refl n (sym (nodes.labels_are n) ∙ is_in_mem e.labels n ∙ mem_from e.labels n inside)

pub carriers_known : (d : Document) (x : Chars) (e : Entry) → HasItsNodes d x e → (n : ℕ) → Contains e.carriers n → has d n ≡ true
carriers_known d x e nodes n inside = known_by d (has_id x) refl n (kept_cases (λ k. has_id x (body d k)) (ids d) n (subst (λ l. Contains l n) nodes.carriers_are inside)).1

-- the entries of the document have their nodes
pub entry_nodes : (d : Document) → IsTree d → (x : Chars) → HasItsNodes d x (entry_of d x)
entry_nodes d t x = record { carriers_are = refl; namers_are = refl; labels_are = order_tells d t (is_label_for x) refl }

pub settled_nodes : (d : Document) → IsTree d → (some : Chars → Bool) (old new : IdIndex) → HaveTheirNodes d old → AreSettled d some old new → HaveTheirNodes d new
settled_nodes d t some old new nodes settled x = subst (HasItsNodes d x) (sym (settled x)) (go (some x))
  where
    go : (b : Bool) → HasItsNodes d x (cond b (entry_of d x) (entry_at old x))
    go true = entry_nodes d t x
    go false = nodes x

-- nothing is settled
pub none_settled : (d : Document) (some : Chars → Bool) (index : IdIndex) → ((x : Chars) → some x ≡ false) → AreSettled d some index index
none_settled d some index none x = ap (λ b. cond b (entry_of d x) (entry_at index x)) (sym (none x))

-- one text is settled
pub text_settled : (d : Document) (text : Chars) (old mid new : IdIndex) (entry : Entry) → entry ≡ entry_of d text → ((x : Chars) → bytes_eq x text ≡ false → entry_at mid x ≡ entry_at old x)
    → ((x : Chars) → entry_at new x ≡ cond (bytes_eq x text) entry (entry_at mid x)) → AreSettled d (λ x. bytes_eq x text) old new
text_settled d text old mid new entry is others put x = put x ∙ go (bytes_eq x text) refl
  where
    go : (b : Bool) → bytes_eq x text ≡ b → cond b entry (entry_at mid x) ≡ cond b (entry_of d x) (entry_at old x)
    go true on = is ∙ ap (entry_of d) (sym ((bytes_eq-Decides x text).0 on))
    go false off = others x off

-- some texts and then others
pub then_settled : (d : Document) (a b : Chars → Bool) (old mid new : IdIndex) → AreSettled d a old mid → AreSettled d b mid new → AreSettled d (λ x. a x || b x) old new
then_settled d a b old mid new first second x = second x ∙ ap (cond (b x) (entry_of d x)) (first x) ∙ go (a x) (b x)
  where
    go : (p q : Bool) → cond q (entry_of d x) (cond p (entry_of d x) (entry_at old x)) ≡ cond (p || q) (entry_of d x) (entry_at old x)
    go true true = refl
    go true false = refl
    go false true = refl
    go false false = refl

pub settled_same : (d : Document) (a b : Chars → Bool) (old new : IdIndex) → ((x : Chars) → a x ≡ b x) → AreSettled d a old new → AreSettled d b old new
settled_same d a b old new same settled x = settled x ∙ ap (λ k. cond k (entry_of d x) (entry_at old x)) (same x)

-- what a loop over nodes has settled
pub record SettledSoFar (d home : Document) (ns : List ℕ) (old now : IdIndex) : Type 0 where
  pub nodes : HaveTheirNodes d now
  pub settled : AreSettled d (is_carried_among home ns) old now

pub more_settled : (d home : Document) (ns : List ℕ) (old now new : IdIndex) (i n : ℕ) → i < length ns → n ≡ get_or ns i n → SettledSoFar d home (take i ns) old now
    → HaveTheirNodes d new → AreSettled d (λ x. is_carried x (body home n)) now new → SettledSoFar d home (take (i + 1) ns) old new
more_settled d home ns old now new i n low is far nodes settled = record {
  nodes = nodes;
  settled = settled_same d (λ x. is_carried_among home (take i ns) x || is_carried x (body home n)) (is_carried_among home (take (i + 1) ns)) old new same
      (then_settled d (is_carried_among home (take i ns)) (λ x. is_carried x (body home n)) old now new far.settled settled);
}
  where
    lone : (a b : Bool) → (a || b) ≡ (a || (b || false))
    lone true b = refl
    lone false true = refl
    lone false false = refl

    same : (x : Chars) → (is_carried_among home (take i ns) x || is_carried x (body home n)) ≡ is_carried_among home (take (i + 1) ns) x
    same x =
        lone (is_carried_among home (take i ns) x) (is_carried x (body home n))
        ∙ sym (list_any-append (λ k. is_carried x (body home k)) (take i ns) (n ∷ []))
        ∙ ap (λ l. is_carried_among home l x) (sym (one_more ns i n low is))

pub all_settled : (d home : Document) (ns : List ℕ) (old now : IdIndex) (i : ℕ) → length ns ≤ i → SettledSoFar d home (take i ns) old now → AreSettled d (is_carried_among home ns) old now
all_settled d home ns old now i past far = settled_same d (is_carried_among home (take i ns)) (is_carried_among home ns) old now (λ x. ap (λ l. is_carried_among home l x) (take_all i ns past)) far.settled
