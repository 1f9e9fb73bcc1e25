-- An index that follows an edit is that of the document after it.
use Rattle.std.proofs.Common.{◌≡◌, ◌⊎◌, inl, inr, ℕ, List, [], ◌∷◌, Bool, true, false, cond, not, ◌||◌, ◌&&◌, Option, Some, None, Contains, refl, sym, ap, subst, ◌∙◌}
use Rattle.std.specs.Prelude.{filter, find, nat_eq}
use Rattle.std.specs.List.{list_any}
use Rattle.std.specs.List.Sorted.{IsStrictlyIncreasing}
use Rattle.std.specs.Option.{option_map_or}
use Rattle.std.proofs.lemmas.Bool.{false≢true, or_parts, eqb-true}
use Rattle.std.proofs.lemmas.List.Kept.{IsStrictlyIncreasing-filter}
use Rattle.ax_base.specs.declared.body.Body.{Body}
use Rattle.ax_base.specs.declared.body.Body.TheVariants.{Words}
use Rattle.ax_base.specs.Characters.{Chars}
use Rattle.ax_base.specs.Document.{Document, Node, node, body, has, ids, order, has_id, target}
use Rattle.ax_base.specs.AccessibleNames.{is_label_for}
use Rattle.ax_base.specs.Trees.{IsTree}
use Rattle.ax_base.proofs.Lookups.{finds}
use Rattle.ax_dom.specs.Among.{is_in}
use Rattle.ax_dom.specs.NodeMaps.{cell_at}
use Rattle.ax_dom.specs.Subtrees.{subtree}
use Rattle.dom_ids.specs.declared.change.Change.{Change}
use Rattle.dom_ids.specs.declared.change.Change.TheVariants.{Comes, Goes}
use Rattle.dom_ids.specs.declared.index.Entry.{Entry}
use Rattle.dom_ids.specs.declared.index.IdIndex.{IdIndex}
use Rattle.dom_ids.specs.Changing.{unless_empty, with_node, with_nodes, AreRising}
use Rattle.dom_ids.specs.Hanging.{Follows}
use Rattle.dom_ids.specs.Index.{carriers, namers, labels, entry_of, entry_at, IsIndexOf}
use Rattle.dom_ids.specs.References.{names_text}
use Rattle.dom_ids.specs.Settling.{is_carried, is_carried_among, HasItsNodes, HaveTheirNodes, AreSettled}
use Rattle.dom_ids.proofs.Changes.{body_nowhere}
use Rattle.dom_ids.proofs.Making.{firsts, known_by, names_nothing, risen, lined, after_change, first_one, carriers_one, labels_one, namers_one, mem_risen, mem_lined, mem_all, rising_is}
use Rattle.dom_ids.proofs.Settled.{ids_tell, order_tells, then_settled}
use Rattle.dom_ids.proofs.Staying.{gathered_same, first_same}
use Rattle.dom_ids.proofs.Tests.{mem, is_in_mem}

-- a node that is not there carries nothing
pub none_carried : (d : Document) (n : ℕ) → None ≡ cell_at d n → (x : Chars) → is_carried x (body d n) ≡ false
none_carried d n none x = ap (is_carried x) (body_nowhere d n none)

-- an index of a document rises
pub index_rises : (d : Document) → IsTree d → (index : IdIndex) → IsIndexOf d index → AreRising index
index_rises d t index is x = record {
  carriers = subst (λ (e : Entry). IsStrictlyIncreasing e.carriers) (sym (is x)) (IsStrictlyIncreasing-filter (λ n. has_id x (body d n)) (ids d) t.rising);
  namers = subst (λ (e : Entry). IsStrictlyIncreasing e.namers) (sym (is x)) (IsStrictlyIncreasing-filter (λ n. names_text x (body d n)) (ids d) t.rising);
}

-- of nodes that do not carry a text neither its first element nor its labels change
module _ (d : Document) (x : Chars) where
  apart : (n : ℕ) (ns : List ℕ) → is_carried_among d (n ∷ ns) x ≡ false → (has_id x (body d n) ≡ false) × (is_label_for x (body d n) ≡ false) × (is_carried_among d ns x ≡ false)
  apart n ns off =
      let parts = or_parts (is_carried x (body d n)) (is_carried_among d ns x) off in
      let both = or_parts (has_id x (body d n)) (is_label_for x (body d n)) parts.0 in
      (both.0, both.1, parts.1)

  first_stays : (c : Change) (ns : List ℕ) (e : Entry) → is_carried_among d ns x ≡ false → (with_nodes c d ns x e).first ≡ e.first
  first_stays c [] e off = refl
  first_stays c (n ∷ ns) e off =
      let p = apart n ns off in
      first_stays c ns (with_node c n (body d n) x e) p.2 ∙ first_one c n (body d n) x e ∙ (λ i. cond (p.0 i) (firsts c e.first (unless_empty x (Some n))) e.first)

  labels_stay : (c : Change) (ns : List ℕ) (e : Entry) → is_carried_among d ns x ≡ false → (with_nodes c d ns x e).labels ≡ e.labels
  labels_stay c [] e off = refl
  labels_stay c (n ∷ ns) e off =
      let p = apart n ns off in
      labels_stay c ns (with_node c n (body d n) x e) p.2 ∙ labels_one c n (body d n) x e ∙ (λ i. cond (p.1 i) (lined c e.labels n) e.labels)

  -- none of some carries the text
  pub not_carried : (ns : List ℕ) (n : ℕ) → is_carried_among d ns x ≡ false → is_in ns n ≡ true → (has_id x (body d n) ≡ false) × (is_label_for x (body d n) ≡ false)
  not_carried [] n off on = cc
  not_carried (m ∷ ns) n off on = go (nat_eq n m) refl on (λ more. not_carried ns n (apart m ns off).2 more)
    where
      p : (has_id x (body d m) ≡ false) × (is_label_for x (body d m) ≡ false) × (is_carried_among d ns x ≡ false)
      p = apart m ns off

      go : (b : Bool) → nat_eq n m ≡ b → (b || is_in ns n) ≡ true → (is_in ns n ≡ true → (has_id x (body d n) ≡ false) × (is_label_for x (body d n) ≡ false)) → (has_id x (body d n) ≡ false) × (is_label_for x (body d n) ≡ false)
      go true is on rest = let same : n ≡ m = eqb-true n m is in (ap (λ k. has_id x (body d k)) same ∙ p.0, ap (λ k. is_label_for x (body d k)) same ∙ p.1)
      go false is on rest = rest on

module _ (old now : Document) (gone come moved : List ℕ) (f : Follows old now gone come moved) (x : Chars) where
  -- what is there after nodes went and came
  told : (a b : Bool) (w v : Bool) → (a ≡ false → b ≡ false → w ≡ v) → (b ≡ true → a ≡ false → w ≡ false) → (a ≡ true → b ≡ false → v ≡ false) → ((w && not (a && w)) || (b && v)) ≡ v
  told true true true v same new lost = refl
  told true true false v same new lost = refl
  told true false true v same new lost = sym (lost refl refl)
  told true false false v same new lost = sym (lost refl refl)
  told false true w v same new lost = ap (λ k. (k && true) || v) (new refl refl)
  told false false w v same new lost = or_none w ∙ same refl refl
    where
      or_none : (w : Bool) → ((w && true) || false) ≡ w
      or_none true = refl
      or_none false = refl

  module _ (p : Body → Bool) (fails : p (Words [] []) ≡ false) (alike : (n : ℕ) → is_in gone n ≡ false → is_in come n ≡ false → p (body old n) ≡ p (body now n)) where
    off_old : (n : ℕ) → has old n ≡ false → p (body old n) ≡ false
    off_old n lost = go (p (body old n)) refl
      where
        go : (b : Bool) → p (body old n) ≡ b → b ≡ false
        go true on = absurd (false≢true (sym lost ∙ known_by old p fails n on))
        go false off = refl

    off_now : (n : ℕ) → has now n ≡ false → p (body now n) ≡ false
    off_now n lost = go (p (body now n)) refl
      where
        go : (b : Bool) → p (body now n) ≡ b → b ≡ false
        go true on = absurd (false≢true (sym lost ∙ known_by now p fails n on))
        go false off = refl

    pub passing_after : (π : Entry → List ℕ) (put : Change → List ℕ → ℕ → List ℕ)
        → ((c : Change) (ns : List ℕ) (n q : ℕ) → mem (put c ns n) q ≡ after_change c (mem ns q) (finds q n))
        → ((c : Change) (n : ℕ) (b : Body) (e : Entry) → π (with_node c n b x e) ≡ cond (p b) (put c (π e) n) (π e))
        → (e : Entry) → ((q : ℕ) → is_in (π e) q ≡ p (body old q)) → (q : ℕ) → mem (π (with_nodes Comes now come x (with_nodes Goes old gone x e))) q ≡ p (body now q)
    passing_after π put tells one e before q =
        mem_all now x π put p tells one Comes come (with_nodes Goes old gone x e) q
        ∙ ap (λ b. b || (mem come q && p (body now q))) (mem_all old x π put p tells one Goes gone e q ∙ ap (λ b. b && not (mem gone q && p (body old q))) (sym (is_in_mem (π e) q) ∙ before q))
        ∙ (λ i. (p (body old q) && not (sym (is_in_mem gone q) i && p (body old q))) || (sym (is_in_mem come q) i && p (body now q)))
        ∙ told (is_in gone q) (is_in come q) (p (body old q)) (p (body now q)) (alike q) (λ on off. off_old q (f.new q on off)) (λ on off. off_now q (f.lost q on off))

  module _ (e : Entry) (was : e ≡ entry_of old x) where
    abbrev more : Entry
    more = with_nodes Comes now come x (with_nodes Goes old gone x e)

    pub nodes_after : IsStrictlyIncreasing more.carriers → IsStrictlyIncreasing more.namers → HasItsNodes now x more
    nodes_after carriers_rise namers_rise = record {
      carriers_are = rising_is now (has_id x) f.hangs.is_tree refl more.carriers carriers_rise
          (passing_after (has_id x) refl (λ n a b. (f.same n a b).ids_same x) (λ (k : Entry). k.carriers) risen mem_risen (λ c n b k. carriers_one c n b x k) e
          (λ q. ap (λ (k : Entry). is_in k.carriers q) was ∙ ids_tell old (has_id x) refl q));
      namers_are = rising_is now (names_text x) f.hangs.is_tree (names_nothing x) more.namers namers_rise
          (passing_after (names_text x) (names_nothing x) (λ n a b. (f.same n a b).names_same x) (λ (k : Entry). k.namers) risen mem_risen (λ c n b k. namers_one c n b x k) e
          (λ q. ap (λ (k : Entry). is_in k.namers q) was ∙ ids_tell old (names_text x) (names_nothing x) q));
      labels_are = λ n. is_in_mem more.labels n ∙ passing_after (is_label_for x) refl (λ n a b. (f.same n a b).labels_same x) (λ (k : Entry). k.labels) lined mem_lined (λ c n b k. labels_one c n b x k) e
          (λ q. ap (λ (k : Entry). is_in k.labels q) was ∙ order_tells old f.hangs.was_tree (is_label_for x) refl q) n;
    }

    -- a text that none of the nodes carries keeps its first element and its labels
    module _ (none_gone : is_carried_among old gone x ≡ false) (none_come : is_carried_among now come x ≡ false) (none_moved : is_carried_among now moved x ≡ false) where
      module _ (p : Body → Bool) (fails : p (Words [] []) ≡ false) (alike : (n : ℕ) → is_in gone n ≡ false → is_in come n ≡ false → p (body old n) ≡ p (body now n))
          (clear : (d : Document) (ns : List ℕ) (n : ℕ) → is_carried_among d ns x ≡ false → is_in ns n ≡ true → p (body d n) ≡ false) where
        passes_same : (n : ℕ) → p (body old n) ≡ p (body now n)
        passes_same n = go (is_in gone n) (is_in come n) refl refl
          where
            go : (a b : Bool) → is_in gone n ≡ a → is_in come n ≡ b → p (body old n) ≡ p (body now n)
            go true true went came = clear old gone n none_gone went ∙ sym (clear now come n none_come came)
            go true false went stayed = clear old gone n none_gone went ∙ sym (off_now p fails alike n (f.lost n went stayed))
            go false true stayed came = off_old p fails alike n (f.new n came stayed) ∙ sym (clear now come n none_come came)
            go false false stayed same = alike n stayed same

        clear_old : (r n : ℕ) → f.top r ≡ true → has old r ≡ true → Contains (subtree old r) n → p (body old n) ≡ false
        clear_old r n is there inside = elim (f.was_below r n is there inside) [
          | inl went ↦ clear old gone n none_gone went
          | inr hung ↦ passes_same n ∙ clear now moved n none_moved hung
        ]

        clear_now : (r n : ℕ) → f.top r ≡ true → has now r ≡ true → Contains (subtree now r) n → p (body now n) ≡ false
        clear_now r n is there inside = elim (f.is_below r n is there inside) [
          | inl came ↦ clear now come n none_come came
          | inr hung ↦ clear now moved n none_moved hung
        ]

        pub order_kept : filter (λ k. p (body old k)) (order old) ≡ filter (λ k. p (body now k)) (order now)
        order_kept = gathered_same old now f.top f.hangs p clear_old clear_now (λ n a b. passes_same n)

        pub first_kept : find (λ k. p (body old k)) (order old) ≡ find (λ k. p (body now k)) (order now)
        first_kept = first_same old now f.top f.hangs p clear_old clear_now (λ n a b. passes_same n)

      labels_kept : labels old x ≡ labels now x
      labels_kept = order_kept (is_label_for x) refl (λ n a b. (f.same n a b).labels_same x) (λ d ns n off on. (not_carried d x ns n off on).1)

  target_kept : (y : Chars) → x ≡ y → is_carried_among old gone x ≡ false → is_carried_among now come x ≡ false → is_carried_among now moved x ≡ false → target old y ≡ target now y
  target_kept [] same none_gone none_come none_moved = refl
  target_kept (c ∷ cs) same none_gone none_come none_moved =
      ap (λ y. find (λ k. has_id y (body old k)) (order old)) (sym same)
      ∙ first_kept (entry_of old x) refl none_gone none_come none_moved (has_id x) refl (λ n a b. (f.same n a b).ids_same x) (λ d ns n off on. (not_carried d x ns n off on).0)
      ∙ ap (λ y. find (λ k. has_id y (body now k)) (order now)) same

  pub kept_after : (e : Entry) → e ≡ entry_of old x → HasItsNodes now x (with_nodes Comes now come x (with_nodes Goes old gone x e))
      → is_carried_among old gone x ≡ false → is_carried_among now come x ≡ false → is_carried_among now moved x ≡ false
      → with_nodes Comes now come x (with_nodes Goes old gone x e) ≡ entry_of now x
  kept_after e was nodes none_gone none_come none_moved = λ i. record {
    first = (first_stays now x Comes come (with_nodes Goes old gone x e) none_come ∙ first_stays old x Goes gone e none_gone ∙ ap (λ (k : Entry). k.first) was ∙ target_kept x refl none_gone none_come none_moved) i;
    carriers = nodes.carriers_are i;
    namers = nodes.namers_are i;
    labels = (labels_stay now x Comes come (with_nodes Goes old gone x e) none_come ∙ labels_stay old x Goes gone e none_gone ∙ ap (λ (k : Entry). k.labels) was ∙ labels_kept e was none_gone none_come none_moved) i;
  }

module _ (old now : Document) (gone come moved : List ℕ) (f : Follows old now gone come moved) (i0 i1 i2 : IdIndex) (is : IsIndexOf old i0)
    (went : (x : Chars) → entry_at i1 x ≡ with_nodes Goes old gone x (entry_at i0 x)) (came : (x : Chars) → entry_at i2 x ≡ with_nodes Comes now come x (entry_at i1 x)) (rises : AreRising i2) where
  both : (x : Chars) → entry_at i2 x ≡ with_nodes Comes now come x (with_nodes Goes old gone x (entry_at i0 x))
  both x = came x ∙ ap (with_nodes Comes now come x) (went x)

  pub nodes_right : HaveTheirNodes now i2
  nodes_right x = subst (HasItsNodes now x) (sym (both x))
      (nodes_after old now gone come moved f x (entry_at i0 x) (is x) (subst (λ (e : Entry). IsStrictlyIncreasing e.carriers) (both x) (rises x).carriers) (subst (λ (e : Entry). IsStrictlyIncreasing e.namers) (both x) (rises x).namers))

  pub renewed : (i3 i4 i5 : IdIndex) → AreSettled now (is_carried_among old gone) i2 i3 → AreSettled now (is_carried_among now come) i3 i4 → AreSettled now (is_carried_among now moved) i4 i5 → IsIndexOf now i5
  renewed i3 i4 i5 one two three x = then_settled now (λ y. is_carried_among old gone y || is_carried_among now come y) (is_carried_among now moved) i2 i4 i5 (then_settled now (is_carried_among old gone) (is_carried_among now come) i2 i3 i4 one two) three x
      ∙ go (is_carried_among old gone x) (is_carried_among now come x) (is_carried_among now moved x) refl refl refl
    where
      go : (a b c : Bool) → is_carried_among old gone x ≡ a → is_carried_among now come x ≡ b → is_carried_among now moved x ≡ c → cond ((a || b) || c) (entry_of now x) (entry_at i2 x) ≡ entry_of now x
      go true b c p q r = refl
      go false true c p q r = refl
      go false false true p q r = refl
      go false false false p q r = both x ∙ kept_after old now gone come moved f x (entry_at i0 x) (is x) (subst (HasItsNodes now x) (both x) (nodes_right x)) p q r
