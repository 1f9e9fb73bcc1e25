-- How many kids an object has.
use Rattle.std.proofs.Common.{◌≡◌, ◌≤◌, ℕ, length, true, [], Some, eqb, sym, ap, subst, ◌∙◌, arith}
use Rattle.std.specs.List.{list_any}
use Rattle.std.specs.Option.{option_map_or}
use Rattle.std.specs.Cmp.{nat_eq_equiv}
use Rattle.std.proofs.lemmas.Bool.{eqb-true}
use Rattle.std.proofs.lemmas.Map.Made.{length-le_from_is_member}
use Rattle.std.proofs.lemmas.Map.Views.{Contains-from_any, list_any-from_Contains}
use Rattle.ax_record.specs.declared.record.Record.{Record}
use Rattle.ax_record.specs.Tree.{Tree, record_at, object_ids, kids_of}
use Rattle.ax_record.specs.ObjectTrees.{IsObjectTree}
use Rattle.ax_record.proofs.Walking.{distinct, id_there}

-- no more than there are objects, since each is one and stands there once
pub few_kids : (t : Tree) → IsObjectTree t → (n : ℕ) → length (kids_of t n) ≤ 65537
few_kids t hangs n =
    let fewer = length-le_from_is_member {eq = eqb} nat_eq_equiv (kids_of t n) (object_ids t) (distinct (kids_of t n) (hangs.once n)) among in
    let all = hangs.few in
    omega arith
  where
    among : (q : ℕ) → list_any (eqb q) (kids_of t n) ≡ true → list_any (eqb q) (object_ids t) ≡ true
    among q inside = list_any-from_Contains nat_eq_equiv q (object_ids t) (id_there t q (hangs.known n q (Contains-from_any eqb-true q (kids_of t n) inside)))

-- the same of the record that a view finds
pub few_of : (t : Tree) → IsObjectTree t → (n : ℕ) (r : Record) → record_at t n ≡ Some r → length r.kids ≤ 65537
few_of t hangs n r found = subst (λ o. length (option_map_or (λ (x : Record). x.kids) o []) ≤ 65537) found (few_kids t hangs n)
