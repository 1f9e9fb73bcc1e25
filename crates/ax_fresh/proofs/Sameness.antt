-- Two records are the same just where the test of all that they have says so.
use Rattle.std.proofs.Common.{◌≡◌, [], Bool, true, false, ◌&&◌, refl, sym, ap, ◌∙◌}
use Rattle.std.specs.Prelude.{nat_eq}
use Rattle.std.specs.Bool.{Decides}
use Rattle.std.proofs.lemmas.Bool.Decides.{Decides-eqb}
use Rattle.std.proofs.lemmas.Bool.{false≢true}
use Rattle.ax_record.specs.declared.prop.Prop.TheVariants.{Role, Name, Description, Value, States, Level, Live, Frame, Text, Runs, Parent, Kids}
use Rattle.ax_record.specs.declared.record.Record.{Record}
use Rattle.ax_record.specs.Differences.{same_prop, changed_props}
use Rattle.ax_record.proofs.Equalities.{both_hold, both_self}
use Rattle.ax_record.proofs.TakenOver.{same_self, same_record as unchanged_is}
use Rattle.ax_fresh.specs.Contents.{same_kind, same_content, same_words, same_place, same_record}

-- no property differs
none_changed : (a b : Record) → same_record a b ≡ true → changed_props a b ≡ []
none_changed a b e =
    let whole = both_hold _ (same_place a b) e in let most = both_hold _ (same_words a b) whole.0 in let parts = both_hold (same_kind a b) (same_content a b) most.0 in
    let k1 = both_hold _ (same_prop Frame a b) parts.0 in let k2 = both_hold _ (same_prop Level a b) k1.0 in let k3 = both_hold _ (same_prop States a b) k2.0 in let k4 = both_hold (same_prop Role a b) (same_prop Live a b) k3.0 in
    let c1 = both_hold _ (same_prop Runs a b) parts.1 in let c2 = both_hold (same_prop Value a b) (same_prop Text a b) c1.0 in
    let w = both_hold (same_prop Name a b) (same_prop Description a b) most.1 in
    let p1 = both_hold _ (same_prop Kids a b) whole.1 in let p2 = both_hold (nat_eq a.id b.id) (same_prop Parent a b) p1.0 in
    rw k4.0 (rw w.0 (rw w.1 (rw c2.0 (rw k3.1 (rw k2.1 (rw k4.1 (rw k1.1 (rw c2.1 (rw c1.1 (rw p2.1 (rw p1.1 refl)))))))))))

same_id : (a b : Record) → same_record a b ≡ true → a.id ≡ b.id
same_id a b e = (Decides-eqb a.id b.id).0 (both_hold (nat_eq a.id b.id) (same_prop Parent a b) (both_hold _ (same_prop Kids a b) (both_hold _ (same_place a b) e).1).0).0

pub record_is : (a b : Record) → same_record a b ≡ true → a ≡ b
record_is a b e = unchanged_is a b (same_id a b e) (none_changed a b e)

pub record_self : (a : Record) → same_record a a ≡ true
record_self a =
    both_self _ (same_place a a)
    (both_self _ (same_words a a)
    (both_self (same_kind a a) (same_content a a)
    (both_self _ (same_prop Frame a a) (both_self _ (same_prop Level a a) (both_self _ (same_prop States a a) (both_self (same_prop Role a a) (same_prop Live a a) (same_self Role a) (same_self Live a)) (same_self States a)) (same_self Level a)) (same_self Frame a))
    (both_self _ (same_prop Runs a a) (both_self (same_prop Value a a) (same_prop Text a a) (same_self Value a) (same_self Text a)) (same_self Runs a)))
    (both_self (same_prop Name a a) (same_prop Description a a) (same_self Name a) (same_self Description a)))
    (both_self _ (same_prop Kids a a) (both_self (nat_eq a.id a.id) (same_prop Parent a a) ((Decides-eqb a.id a.id).1 refl) (same_self Parent a)) (same_self Kids a))

pub record_decided : (a b : Record) → Decides (same_record a b) (a ≡ b)
record_decided a b = (record_is a b, λ e. ap (same_record a) (sym e) ∙ record_self a)
