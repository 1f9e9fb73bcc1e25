-- The text that comes next is the first of the later texts, and the others are those after it.
use Rattle.std.proofs.Common.{◌≡◌, ℕ, List, [], ◌∷◌, ◌++◌, filter, reverse, Bool, true, false, refl, sym, ap, subst, ◌∙◌, append_assoc, MatchOption, IfSome, IsTrue, is_some}
use Rattle.std.specs.Prelude.{find, Option, Some, None}
use Rattle.std.specs.Option.{option_map_or}
use Rattle.std.proofs.lemmas.Bool.{false≢true}
use Rattle.std.proofs.lemmas.List.{reverse-append, reverse-reverse}
use Rattle.std.proofs.lemmas.List.Elements.{filter-append}
use Rattle.ax_base.specs.Trees.{HasNoRepeats}
use Rattle.ax_record.specs.declared.record.Record.{Record}
use Rattle.ax_record.specs.Tree.{Tree, preorder, has_object, record_at}
use Rattle.ax_record.specs.ObjectTrees.{IsObjectTree}
use Rattle.ax_record.proofs.Preorder.{preorder_once, in_preorder}
use Rattle.ax_record.specs.Orders.{before, after}
use Rattle.ax_record.proofs.Lists.{after_is, before_is, parted}
use Rattle.text_order.specs.Texts.{is_text, texts, later_texts, earlier_texts}
use Rattle.text_order.proofs.Filters.{kept, filter_once, filter_none, filter_found, filter-reverse}

module _ (t : Tree) where
  pub text_known : (n : ℕ) → is_text t n ≡ true → has_object t n ≡ true
  text_known n e = go (record_at t n) refl
    where
      go : (o : Option Record) → record_at t n ≡ o → has_object t n ≡ true
      go None is = absurd (false≢true (sym (ap (λ o. option_map_or (λ (r : Record). is_some r.text) o false) is) ∙ e))
      go (Some r) is = ap is_some is

  pub going_known : (n : ℕ) (next : Option ℕ) → next ≡ find (is_text t) (after n (preorder t)) → IfSome next (λ k. IsTrue (has_object t k))
  going_known n None e = tt
  going_known n (Some k) e = text_known k (filter_found (is_text t) (after n (preorder t)) k (sym e)).0

  pub prior_known : (n : ℕ) (next : Option ℕ) → next ≡ find (is_text t) (reverse (before n (preorder t))) → IfSome next (λ k. IsTrue (has_object t k))
  prior_known n None e = tt
  prior_known n (Some k) e = text_known k (filter_found (is_text t) (reverse (before n (preorder t))) k (sym e)).0

  module _ (hangs : IsObjectTree t) where
    pub going : (n : ℕ) → has_object t n ≡ true → (next : Option ℕ) → next ≡ find (is_text t) (after n (preorder t))
        → MatchOption next (later_texts t n ≡ []) (λ k. later_texts t n ≡ k ∷ later_texts t k)
    going n there None e = filter_none (is_text t) (after n (preorder t)) e
    going n there (Some k) e =
        let f = filter_found (is_text t) (after n (preorder t)) k (sym e) in
        let all : preorder t ≡ (before n (preorder t) ++ n ∷ f.1) ++ k ∷ f.2 =
        parted n (preorder t) (in_preorder t hangs n there) ∙ ap (λ l. before n (preorder t) ++ n ∷ l) f.3 ∙ sym (append_assoc (before n (preorder t)) (n ∷ f.1) (k ∷ f.2)) in
        let past : after k (preorder t) ≡ f.2 = ap (after k) all ∙ after_is k (before n (preorder t) ++ n ∷ f.1) f.2 (subst HasNoRepeats all (preorder_once t hangs)) in
        f.4 ∙ ap (λ l. k ∷ filter (is_text t) l) (sym past)

    pub prior : (n : ℕ) → has_object t n ≡ true → (next : Option ℕ) → next ≡ find (is_text t) (reverse (before n (preorder t)))
        → MatchOption next (earlier_texts t n ≡ []) (λ k. earlier_texts t n ≡ k ∷ earlier_texts t k)
    prior n there None e = filter_none (is_text t) (reverse (before n (preorder t))) e
    prior n there (Some k) e =
        let f = filter_found (is_text t) (reverse (before n (preorder t))) k (sym e) in
        let front : before n (preorder t) ≡ reverse f.2 ++ k ∷ reverse f.1 =
        sym (reverse-reverse (before n (preorder t))) ∙ ap reverse f.3 ∙ reverse-append f.1 (k ∷ f.2) ∙ ap (λ l. l ++ reverse f.1) (reverse-append (k ∷ []) f.2) ∙ append_assoc (reverse f.2) (k ∷ []) (reverse f.1) in
        let all : preorder t ≡ reverse f.2 ++ k ∷ (reverse f.1 ++ n ∷ after n (preorder t)) =
        parted n (preorder t) (in_preorder t hangs n there) ∙ ap (λ l. l ++ n ∷ after n (preorder t)) front ∙ append_assoc (reverse f.2) (k ∷ reverse f.1) (n ∷ after n (preorder t)) in
        let past : before k (preorder t) ≡ reverse f.2 = ap (before k) all ∙ before_is k (reverse f.2) (reverse f.1 ++ n ∷ after n (preorder t)) (subst HasNoRepeats all (preorder_once t hangs)) in
        f.4 ∙ ap (λ l. k ∷ filter (is_text t) l) (sym (ap reverse past ∙ reverse-reverse f.2))

    -- a text parts the texts: those before it, it, and those after it
    pub parted_texts : (n : ℕ) → is_text t n ≡ true → texts t ≡ reverse (earlier_texts t n) ++ n ∷ later_texts t n
    parted_texts n text =
        ap (filter (is_text t)) (parted n (preorder t) (in_preorder t hangs n (text_known n text))) ∙ filter-append (is_text t) (before n (preorder t)) (n ∷ after n (preorder t))
        ∙ ap (λ l. filter (is_text t) (before n (preorder t)) ++ l) (kept (is_text t) n (after n (preorder t)) true text)
        ∙ ap (λ l. l ++ n ∷ later_texts t n) (sym (ap reverse (filter-reverse (is_text t) (before n (preorder t))) ∙ reverse-reverse (filter (is_text t) (before n (preorder t)))))

    -- no text stands twice among the texts
    pub texts_once : HasNoRepeats (texts t)
    texts_once = filter_once (is_text t) (preorder t) (preorder_once t hangs)
