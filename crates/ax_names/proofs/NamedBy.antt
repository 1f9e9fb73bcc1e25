-- What names an element, and what describes it.
use Rattle.std.proofs.Common.{◌≡◌, Bool, true, false, cond, not, ◌&&◌, ◌||◌, Some, None, List, [], codes, refl, sym, ap, ◌∙◌}
use Rattle.ax_base.specs.declared.attrs.Attr.{Attr}
use Rattle.ax_base.specs.declared.role.Role.{Role}
use Rattle.ax_base.specs.Characters.{Chars, is_blank, flat, cut}
use Rattle.ax_base.specs.NamedRoles.{name_prohibited, names_from_content}
use Rattle.ax_base.specs.Values.{text_in}
use Rattle.ax_names.specs.declared.naming.Named.{Named}
use Rattle.ax_names.specs.OwnTexts.{said_or, title_said, element_called, named_from, described_from, is_settled}
use Rattle.ax_names.proofs.Turns.{counts, skipped}

module _ (r : Role) (attrs : List Attr) (referred label below : Chars) where
  abbrev called : Chars
  called = element_called referred label r attrs below

  -- an element that may not be named has no name
  pub named_nothing : (name : Chars) → name_prohibited r ≡ true → name ≡ cut (flat []) → record { name = name; by_title = false } ≡ named_from r attrs referred label below
  named_nothing name off is = λ i. record {
    name = (is ∙ ap (λ b. cut (flat (cond b [] (said_or called (title_said attrs))))) (sym off)) i;
    by_title = ap (λ b. not b && is_blank called) (sym off) i;
  }

  module _ (may : name_prohibited r ≡ false) where
    name_is : (name text : Chars) → name ≡ cut (flat text) → said_or called (title_said attrs) ≡ text → name ≡ cut (flat (cond (name_prohibited r) [] (said_or called (title_said attrs))))
    name_is name text is same = is ∙ ap (λ t. cut (flat t)) (sym same) ∙ ap (λ b. cut (flat (cond b [] (said_or called (title_said attrs))))) (sym may)

    by_title_is : (v : Bool) → is_blank called ≡ v → v ≡ (not (name_prohibited r) && is_blank called)
    by_title_is v is = sym is ∙ ap (λ b. not b && is_blank called) (sym may)

    -- it is named by what comes before its `title`
    pub named_before : (name : Chars) → Some name ≡ cond (is_blank called) None (Some (cut (flat called))) → record { name = name; by_title = false } ≡ named_from r attrs referred label below
    named_before name said = go (is_blank called) refl said
      where
        go : (v : Bool) → is_blank called ≡ v → Some name ≡ cond v None (Some (cut (flat called))) → record { name = name; by_title = false } ≡ named_from r attrs referred label below
        go true e some = absurd (cc)
        go false e some = let same : name ≡ cut (flat called) = cc in λ i. record {
          name = name_is name called same (counts called (title_said attrs) e) i;
          by_title = by_title_is false e i;
        }

    -- where nothing does, its `title` names it
    pub named_last : (name : Chars) → None ≡ cond (is_blank called) None (Some (cut (flat called))) → name ≡ cut (flat (title_said attrs)) → record { name = name; by_title = true } ≡ named_from r attrs referred label below
    named_last name nothing is = go (is_blank called) refl nothing
      where
        go : (v : Bool) → is_blank called ≡ v → None ≡ cond v None (Some (cut (flat called))) → record { name = name; by_title = true } ≡ named_from r attrs referred label below
        go false e none = absurd (cc)
        go true e none = λ i. record {
          name = name_is name (title_said attrs) is (skipped called (title_said attrs) e) i;
          by_title = by_title_is true e i;
        }

-- where no reference describes an element, its `title` does, unless that names it
pub described_last : (attrs : List Attr) (referred last : Chars) (by_title v : Bool) → is_blank referred ≡ true → by_title ≡ v → last ≡ cond v [] (title_said attrs) → cut (flat last) ≡ described_from attrs referred by_title
described_last attrs referred last by_title v none is same =
    ap (λ t. cut (flat t)) (same ∙ ap (λ b. cond b [] (title_said attrs)) (sym is) ∙ sym (skipped referred (cond by_title [] (title_said attrs)) none))

-- the name of an element that is called something before its `title`
abbrev named_as : Bool → List Attr → Chars → Named
named_as prohibited attrs called = record { name = cut (flat (cond prohibited [] (said_or called (title_said attrs)))); by_title = not prohibited && is_blank called }

-- where it is settled what names an element, neither its label nor its children count
module _ (r : Role) (attrs : List Attr) (referred : Chars) where
  abbrev own : Chars
  own = text_in (codes "aria-label") attrs

  abbrev with_these : Chars → Chars → Chars
  with_these label below = element_called referred label r attrs below

  first_names : is_blank referred ≡ false → (label below : Chars) → with_these label below ≡ referred
  first_names some label below = counts referred (said_or own (said_or label (said_or (cond (names_from_content r) below []) []))) some

  second_names : is_blank referred ≡ true → is_blank own ≡ false → (label below : Chars) → with_these label below ≡ own
  second_names none some label below =
      skipped referred (said_or own (said_or label (said_or (cond (names_from_content r) below []) []))) none
      ∙ counts own (said_or label (said_or (cond (names_from_content r) below []) [])) some

  pub settled_named : (label below : Chars) → is_settled r attrs referred ≡ true → named_from r attrs referred [] [] ≡ named_from r attrs referred label below
  settled_named label below settled = go (name_prohibited r) (is_blank referred) (is_blank own) refl refl refl settled
    where
      go : (p x a : Bool) → name_prohibited r ≡ p → is_blank referred ≡ x → is_blank own ≡ a → (p || (not x || not a)) ≡ true → named_from r attrs referred [] [] ≡ named_from r attrs referred label below
      go true x a off e f on = ap (λ p. named_as p attrs (with_these [] [])) off ∙ ap (λ p. named_as p attrs (with_these label below)) (sym off)
      go false false a off e f on = ap (named_as (name_prohibited r) attrs) (first_names e [] [] ∙ sym (first_names e label below))
      go false true false off e f on = ap (named_as (name_prohibited r) attrs) (second_names e f [] [] ∙ sym (second_names e f label below))
      go false true true off e f on = absurd (cc)
