-- Worked examples: the texts of small documents.
use Rattle.std.proofs.Common.{◌≡◌, refl, [], ◌∷◌, None, codes}
use Rattle.std.specs.Fmt.{take_chars, digits}
use lib.Utf8.{encode}
use Rattle.std.specs.Str.{chars}
use Rattle.ax_base.specs.Characters.{tokens, flat}
use Rattle.ax_base.specs.Recursion.{from_below}
use Rattle.ax_base.specs.Document.{root, lineage_within}
use Rattle.ax_base.specs.Quoting.{quoted_char}
use Rattle.ax_base.specs.Values.{trimmed}
use Rattle.ax_base.specs.Roles.{element_role, hides_element, is_ignored}
use Rattle.ax_dom.specs.declared.edit.Edit.TheVariants.{InsertElement, InsertText}
use Rattle.ax_dom.specs.Changes.{new_document, edited}
use Rattle.ax_record.specs.Records.{tree}
use Rattle.ax_session.specs.Texts.{lines_within}

-- the root alone
root_alone : lines_within (tree new_document) 128 root ≡ codes "1 0 document \"\"\n"
unfolding from_below lineage_within flat tokens take_chars quoted_char chars digits encode
root_alone = refl

-- a button with a label
labelled_button : lines_within (tree (edited new_document (InsertElement 2 1 None (codes "button") (record { name = codes "aria-label"; value = codes " Save\nit " } ∷ [])))) 128 root ≡ codes "1 0 document \"\"\n2 1 button \"Save it\"\n"
unfolding from_below lineage_within trimmed element_role hides_element is_ignored flat tokens take_chars quoted_char chars digits encode
labelled_button = refl

-- a button that its text names
named_by_its_text : lines_within (tree (edited (edited new_document (InsertElement 2 1 None (codes "button") [])) (InsertText 3 2 None (codes "Save")))) 128 root ≡ codes "1 0 document \"\"\n2 1 button \"Save\"\n"
unfolding from_below lineage_within trimmed element_role hides_element is_ignored flat tokens take_chars quoted_char chars digits encode
named_by_its_text = refl
