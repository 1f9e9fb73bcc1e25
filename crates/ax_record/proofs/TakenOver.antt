-- A record that takes over what differs is the other record.
use Rattle.std.proofs.Common.{◌≡◌, List, [], ◌∷◌, map, filter, Bool, true, false, not, refl, sym, ap, ◌∙◌}
use Rattle.std.specs.Prelude.{nat_eq, bytes_eq}
use Rattle.std.specs.Option.{option_eq}
use Rattle.std.proofs.lemmas.Bool.Decides.{Decides-eqb}
use Rattle.std.proofs.lemmas.Slice.Eq.{bytes_eq-Decides}
use Rattle.ax_base.specs.contracts.rect.RunPartialEq.TheImpl as runs
use Rattle.ax_record.specs.declared.prop.Prop.{Prop}
use Rattle.ax_record.specs.declared.prop.Prop.TheVariants.{Role, Name, Description, Value, States, Level, Live, Frame, Text, Runs, Parent, Kids}
use Rattle.ax_record.specs.declared.prop.PropValue.{PropValue}
use Rattle.ax_record.specs.declared.prop.PropValue.TheVariants.{Role as IsRole, Name as IsName, Description as IsDescription, Value as IsValue, States as AreStates, Level as IsLevel, Live as IsLive, Frame as IsFrame, Text as IsText, Runs as AreRuns, Parent as IsParent, Kids as AreKids}
use Rattle.ax_record.specs.declared.record.Record.{Record}
use Rattle.ax_record.specs.Differences.{every_prop, prop_of, same_prop, changed_props, with_prop, with_props}
use Rattle.ax_record.proofs.RoleEquality.{role_is, role_self}
use Rattle.ax_record.proofs.Equalities.{IsEquality, option_equality, list_equality, live_equality, rect_equality, run_equality, states_equality}

texts : IsEquality (option_eq bytes_eq)
texts = option_equality bytes_eq bytes_eq-Decides

numbers : IsEquality (option_eq nat_eq)
numbers = option_equality nat_eq Decides-eqb

-- the test of each property tells whether it is the same
pub same_is : (p : Prop) (a b : Record) → same_prop p a b ≡ true → prop_of p a ≡ prop_of p b
same_is Role a b e = ap IsRole (role_is a.role b.role e)
same_is Name a b e = ap IsName ((bytes_eq-Decides a.name b.name).0 e)
same_is Description a b e = ap IsDescription ((bytes_eq-Decides a.description b.description).0 e)
same_is Value a b e = ap IsValue ((texts a.value b.value).0 e)
same_is States a b e = ap AreStates ((states_equality a.states b.states).0 e)
same_is Level a b e = ap IsLevel ((numbers a.level b.level).0 e)
same_is Live a b e = ap IsLive ((live_equality a.live b.live).0 e)
same_is Frame a b e = ap IsFrame ((rect_equality a.frame b.frame).0 e)
same_is Text a b e = ap IsText ((texts a.text b.text).0 e)
same_is Runs a b e = ap AreRuns ((list_equality runs.ghosts.eq run_equality a.runs b.runs).0 e)
same_is Parent a b e = ap IsParent ((numbers a.parent b.parent).0 e)
same_is Kids a b e = ap AreKids ((bytes_eq-Decides a.kids b.kids).0 e)

pub same_self : (p : Prop) (a : Record) → same_prop p a a ≡ true
same_self Role a = role_self a.role
same_self Name a = (bytes_eq-Decides a.name a.name).1 refl
same_self Description a = (bytes_eq-Decides a.description a.description).1 refl
same_self Value a = (texts a.value a.value).1 refl
same_self States a = (states_equality a.states a.states).1 refl
same_self Level a = (numbers a.level a.level).1 refl
same_self Live a = (live_equality a.live a.live).1 refl
same_self Frame a = (rect_equality a.frame a.frame).1 refl
same_self Text a = (texts a.text a.text).1 refl
same_self Runs a = (list_equality runs.ghosts.eq run_equality a.runs a.runs).1 refl
same_self Parent a = (numbers a.parent a.parent).1 refl
same_self Kids a = (bytes_eq-Decides a.kids a.kids).1 refl

-- a record that takes its own property over stays
kept : (p : Prop) (r : Record) → with_prop r (prop_of p r) ≡ r
kept Role r = refl
kept Name r = refl
kept Description r = refl
kept Value r = refl
kept States r = refl
kept Level r = refl
kept Live r = refl
kept Frame r = refl
kept Text r = refl
kept Runs r = refl
kept Parent r = refl
kept Kids r = refl

-- what is listed of some properties
abbrev listed : Record → Record → List Prop → List PropValue
listed a b ps = map (λ p. prop_of p b) (filter (λ p. not (same_prop p a b)) ps)

-- a property is taken over, whether it differs or not
step : (a b r : Record) (p : Prop) (ps : List Prop) → prop_of p r ≡ prop_of p a → with_props r (listed a b (p ∷ ps)) ≡ with_props (with_prop r (prop_of p b)) (listed a b ps)
step a b r p ps as_was = go (same_prop p a b) refl
  where
    go : (t : Bool) → same_prop p a b ≡ t → with_props r (listed a b (p ∷ ps)) ≡ with_props (with_prop r (prop_of p b)) (listed a b ps)
    go true e = rw e (ap (λ x. with_props x (listed a b ps)) (sym (kept p r) ∙ ap (with_prop r) (as_was ∙ same_is p a b e)))
    go false e = rw e refl

-- a record that takes over all that differs is the other, but for its id
pub taken_over : (a b : Record) → with_props a (changed_props a b) ≡ record b { id = a.id }
taken_over a b =
    let r0 = a in
    let r1 = with_prop r0 (prop_of Role b) in
    let r2 = with_prop r1 (prop_of Name b) in
    let r3 = with_prop r2 (prop_of Description b) in
    let r4 = with_prop r3 (prop_of Value b) in
    let r5 = with_prop r4 (prop_of States b) in
    let r6 = with_prop r5 (prop_of Level b) in
    let r7 = with_prop r6 (prop_of Live b) in
    let r8 = with_prop r7 (prop_of Frame b) in
    let r9 = with_prop r8 (prop_of Text b) in
    let r10 = with_prop r9 (prop_of Runs b) in
    let r11 = with_prop r10 (prop_of Parent b) in
    step a b r0 Role (Name ∷ Description ∷ Value ∷ States ∷ Level ∷ Live ∷ Frame ∷ Text ∷ Runs ∷ Parent ∷ Kids ∷ []) refl
    ∙ step a b r1 Name (Description ∷ Value ∷ States ∷ Level ∷ Live ∷ Frame ∷ Text ∷ Runs ∷ Parent ∷ Kids ∷ []) refl
    ∙ step a b r2 Description (Value ∷ States ∷ Level ∷ Live ∷ Frame ∷ Text ∷ Runs ∷ Parent ∷ Kids ∷ []) refl
    ∙ step a b r3 Value (States ∷ Level ∷ Live ∷ Frame ∷ Text ∷ Runs ∷ Parent ∷ Kids ∷ []) refl
    ∙ step a b r4 States (Level ∷ Live ∷ Frame ∷ Text ∷ Runs ∷ Parent ∷ Kids ∷ []) refl
    ∙ step a b r5 Level (Live ∷ Frame ∷ Text ∷ Runs ∷ Parent ∷ Kids ∷ []) refl
    ∙ step a b r6 Live (Frame ∷ Text ∷ Runs ∷ Parent ∷ Kids ∷ []) refl
    ∙ step a b r7 Frame (Text ∷ Runs ∷ Parent ∷ Kids ∷ []) refl
    ∙ step a b r8 Text (Runs ∷ Parent ∷ Kids ∷ []) refl
    ∙ step a b r9 Runs (Parent ∷ Kids ∷ []) refl
    ∙ step a b r10 Parent (Kids ∷ []) refl
    ∙ step a b r11 Kids [] refl

-- no property of a record differs from itself
nothing_listed : (a : Record) (ps : List Prop) → listed a a ps ≡ []
nothing_listed a [] = refl
nothing_listed a (p ∷ ps) = rw (same_self p a) (nothing_listed a ps)

pub unchanged : (a : Record) → changed_props a a ≡ []
unchanged a = nothing_listed a every_prop

-- records of one id in which no property differs are the same
pub same_record : (a b : Record) → a.id ≡ b.id → changed_props a b ≡ [] → a ≡ b
same_record a b id none = sym (ap (with_props a) none) ∙ taken_over a b ∙ (λ i. record b { id = id i })
