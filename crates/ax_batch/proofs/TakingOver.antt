-- Properties that are taken over, and then others.
use Rattle.std.proofs.Common.{◌≡◌, List, [], ◌∷◌, ◌++◌, Bool, true, false, cond, Option, Some, None, unwrap_or, refl, sym, ap, ◌∙◌}
use Rattle.std.specs.Prelude.{flat_map, option_to_list}
use Rattle.std.specs.Option.{option_or}
use Rattle.std.proofs.lemmas.Bool.{false≢true}
use Rattle.ax_record.specs.contracts.prop.PropPartialEq.TheImpl as props
use Rattle.ax_record.specs.declared.prop.Prop.{Prop}
use Rattle.ax_record.specs.declared.prop.Prop.TheVariants.{Role, Name, Description, Value, States, Level, Live, Frame, Text, Runs, Parent, Kids}
use Rattle.ax_record.specs.declared.prop.PropValue.{PropValue}
use Rattle.ax_record.specs.declared.prop.PropValue.TheVariants.{Role as IsRole, Name as IsName, Description as IsDescription, Value as IsValue, States as AreStates, Level as IsLevel, Live as IsLive, Frame as IsFrame, Text as IsText, Runs as AreRuns, Parent as IsParent, Kids as AreKids}
use Rattle.ax_record.specs.declared.record.Record.{Record}
use Rattle.ax_record.specs.Differences.{every_prop, prop_of, with_prop, with_props}
use Rattle.ax_batch.specs.Fates.{prop_in, value_in, joint_props, all_props}

-- whether two are the same property
abbrev alike : Prop → Prop → Bool
alike p q = props.ghosts.eq p q

same : (p q : Prop) → alike p q ≡ true → p ≡ q
same Role Role e = refl
same Name Name e = refl
same Description Description e = refl
same Value Value e = refl
same States States e = refl
same Level Level e = refl
same Live Live e = refl
same Frame Frame e = refl
same Text Text e = refl
same Runs Runs e = refl
same Parent Parent e = refl
same Kids Kids e = refl
same _ _ e = absurd (false≢true e)

-- a property after one is taken over
set_is : (p : Prop) (r : Record) (v : PropValue) → prop_of p (with_prop r v) ≡ cond (alike (prop_in v) p) v (prop_of p r)
set_is Role r (IsRole x) = refl
set_is Name r (IsName x) = refl
set_is Description r (IsDescription x) = refl
set_is Value r (IsValue x) = refl
set_is States r (AreStates x) = refl
set_is Level r (IsLevel x) = refl
set_is Live r (IsLive x) = refl
set_is Frame r (IsFrame x) = refl
set_is Text r (IsText x) = refl
set_is Runs r (AreRuns x) = refl
set_is Parent r (IsParent x) = refl
set_is Kids r (AreKids x) = refl
set_is _ r _ = refl

same_id : (r : Record) (v : PropValue) → (with_prop r v).id ≡ r.id
same_id r (IsRole x) = refl
same_id r (IsName x) = refl
same_id r (IsDescription x) = refl
same_id r (IsValue x) = refl
same_id r (AreStates x) = refl
same_id r (IsLevel x) = refl
same_id r (IsLive x) = refl
same_id r (IsFrame x) = refl
same_id r (IsText x) = refl
same_id r (AreRuns x) = refl
same_id r (IsParent x) = refl
same_id r (AreKids x) = refl

-- a record keeps its id, whatever it takes over
pub kept_id : (r : Record) (ps : List PropValue) → (with_props r ps).id ≡ r.id
kept_id r [] = refl
kept_id r (p ∷ ps) = kept_id (with_prop r p) ps ∙ same_id r p

-- a property after some are taken over
all_set : (p : Prop) (r : Record) (vs : List PropValue) → prop_of p (with_props r vs) ≡ unwrap_or (value_in p vs) (prop_of p r)
unfolding value_in
all_set p r [] = refl
all_set p r (v ∷ vs) = all_set p (with_prop r v) vs ∙ ap (unwrap_or (value_in p vs)) (set_is p r v) ∙ over (value_in p vs) (alike (prop_in v) p)
  where
    over : (o : Option PropValue) (b : Bool) → unwrap_or o (cond b v (prop_of p r)) ≡ unwrap_or (option_or o (cond b (Some v) None)) (prop_of p r)
    over (Some w) b = refl
    over None true = refl
    over None false = refl

-- records of one id with the same properties are the same
same_records : (a b : Record) → a.id ≡ b.id → ((p : Prop) → prop_of p a ≡ prop_of p b) → a ≡ b
same_records a b id each =
    let role : a.role ≡ b.role = (let e = each Role in cc) in
    let name : a.name ≡ b.name = (let e = each Name in cc) in
    let description : a.description ≡ b.description = (let e = each Description in cc) in
    let value : a.value ≡ b.value = (let e = each Value in cc) in
    let states : a.states ≡ b.states = (let e = each States in cc) in
    let level : a.level ≡ b.level = (let e = each Level in cc) in
    let live : a.live ≡ b.live = (let e = each Live in cc) in
    let frame : a.frame ≡ b.frame = (let e = each Frame in cc) in
    let text : a.text ≡ b.text = (let e = each Text in cc) in
    let runs : a.runs ≡ b.runs = (let e = each Runs in cc) in
    let parent : a.parent ≡ b.parent = (let e = each Parent in cc) in
    let kids : a.kids ≡ b.kids = (let e = each Kids in cc) in
    λ i. record { id = id i; role = role i; name = name i; description = description i; value = value i; states = states i; level = level i; live = live i; frame = frame i; text = text i; runs = runs i; parent = parent i; kids = kids i }

-- what is found among values is of that property
found_of : (p : Prop) (vs : List PropValue) (v : PropValue) → value_in p vs ≡ Some v → alike (prop_in v) p ≡ true
unfolding value_in
found_of p [] v is = absurd (cc)
found_of p (w ∷ vs) v is = go (value_in p vs) (alike (prop_in w) p) refl refl is (found_of p vs v)
  where
    go : (o : Option PropValue) (b : Bool) → value_in p vs ≡ o → alike (prop_in w) p ≡ b → option_or o (cond b (Some w) None) ≡ Some v → (value_in p vs ≡ Some v → alike (prop_in v) p ≡ true) → alike (prop_in v) p ≡ true
    go (Some u) b is_u at is rest = rest (is_u ∙ is)
    go None true is_u at is rest = (let e : w ≡ v = cc in ap (λ x. alike (prop_in x) p) (sym e) ∙ at)
    go None false is_u at is rest = absurd (cc)

or_none : (o : Option PropValue) → option_or o None ≡ o
or_none None = refl
or_none (Some v) = refl

-- whether a property is among some
listed_in : Prop → List Prop → Bool
listed_in p [] = false
listed_in p (k ∷ ks) = cond (alike k p) true (listed_in p ks)

-- what is found among the values that are listed for some properties
module _ (g : Prop → Option PropValue) (own : (k : Prop) (v : PropValue) → g k ≡ Some v → alike (prop_in v) k ≡ true) (p : Prop) where
  listed_is : (ks : List Prop) → value_in p (flat_map (λ k. option_to_list (g k)) ks) ≡ cond (listed_in p ks) (g p) None
  unfolding value_in listed_in
  listed_is [] = refl
  listed_is (k ∷ ks) = go (g k) (alike k p) refl refl (listed_is ks)
    where
      go : (o : Option PropValue) (b : Bool) → g k ≡ o → alike k p ≡ b → value_in p (flat_map (λ j. option_to_list (g j)) ks) ≡ cond (listed_in p ks) (g p) None
          → value_in p (option_to_list o ++ flat_map (λ j. option_to_list (g j)) ks) ≡ cond (cond (alike k p) true (listed_in p ks)) (g p) None
      go None true is at rest = rest ∙ none (listed_in p ks) ∙ (λ i. cond (cond (sym at i) true (listed_in p ks)) (sym here i) None) ∙ refl
        where
          here : g p ≡ None
          here = ap g (sym (same k p at)) ∙ is

          none : (c : Bool) → cond c (g p) None ≡ None
          none true = here
          none false = refl
      go None false is at rest = rest ∙ (λ i. cond (cond (sym at i) true (listed_in p ks)) (g p) None)
      go (Some v) true is at rest =
          (λ i. option_or (rest i) (cond (mine i) (Some v) None)) ∙ hit (listed_in p ks) ∙ sym here ∙ (λ i. cond (cond (sym at i) true (listed_in p ks)) (g p) None)
        where
          here : g p ≡ Some v
          here = ap g (sym (same k p at)) ∙ is

          mine : alike (prop_in v) p ≡ true
          mine = ap (λ q. alike q p) (same (prop_in v) k (own k v is)) ∙ at

          hit : (c : Bool) → option_or (cond c (g p) None) (Some v) ≡ Some v
          hit true = ap (λ o. option_or o (Some v)) here
          hit false = refl
      go (Some v) false is at rest =
          (λ i. option_or (rest i) (cond (other i) (Some v) None)) ∙ or_none (cond (listed_in p ks) (g p) None) ∙ (λ i. cond (cond (sym at i) true (listed_in p ks)) (g p) None)
        where
          other : alike (prop_in v) p ≡ false
          other = ap (λ q. alike q p) (same (prop_in v) k (own k v is)) ∙ at

every_is : (p : Prop) → listed_in p every_prop ≡ true
unfolding listed_in
every_is Role = refl
every_is Name = refl
every_is Description = refl
every_is Value = refl
every_is States = refl
every_is Level = refl
every_is Live = refl
every_is Frame = refl
every_is Text = refl
every_is Runs = refl
every_is Parent = refl
every_is Kids = refl

-- a property among those of either list
joint_value : (ps qs : List PropValue) (p : Prop) → value_in p (joint_props ps qs) ≡ option_or (value_in p qs) (value_in p ps)
unfolding joint_props
joint_value ps qs p = listed_is (λ k. option_or (value_in k qs) (value_in k ps)) own p every_prop ∙ ap (λ c. cond c (option_or (value_in p qs) (value_in p ps)) None) (every_is p)
  where
    own : (k : Prop) (v : PropValue) → option_or (value_in k qs) (value_in k ps) ≡ Some v → alike (prop_in v) k ≡ true
    own k v is = go (value_in k qs) refl is
      where
        go : (o : Option PropValue) → value_in k qs ≡ o → option_or o (value_in k ps) ≡ Some v → alike (prop_in v) k ≡ true
        go (Some w) at is = found_of k qs v (at ∙ is)
        go None at is = found_of k ps v is

-- to take the properties of either over is to take over those of the first, and then those of the second
pub joint_with : (r : Record) (ps qs : List PropValue) → with_props r (joint_props ps qs) ≡ with_props (with_props r ps) qs
joint_with r ps qs =
    same_records (with_props r (joint_props ps qs)) (with_props (with_props r ps) qs) (kept_id r (joint_props ps qs) ∙ sym (kept_id (with_props r ps) qs ∙ kept_id r ps))
    (λ p. all_set p r (joint_props ps qs) ∙ ap (λ o. unwrap_or o (prop_of p r)) (joint_value ps qs p) ∙ over (value_in p qs) (value_in p ps) (prop_of p r) ∙ sym (all_set p (with_props r ps) qs ∙ ap (unwrap_or (value_in p qs)) (all_set p r ps)))
  where
    over : (a b : Option PropValue) (x : PropValue) → unwrap_or (option_or a b) x ≡ unwrap_or a (unwrap_or b x)
    over (Some v) b x = refl
    over None b x = refl

-- a record that takes over all properties of another is the other, but for its id
pub all_taken : (x r : Record) → with_props x (all_props r) ≡ record r { id = x.id }
unfolding all_props
all_taken x r = refl

-- one value more
pub value_in_more : (p : Prop) (xs : List PropValue) (x : PropValue) → value_in p (xs ++ x ∷ []) ≡ cond (alike (prop_in x) p) (Some x) (value_in p xs)
unfolding value_in
value_in_more p [] x = refl
value_in_more p (y ∷ ys) x = ap (λ o. option_or o (cond (alike (prop_in y) p) (Some y) None)) (value_in_more p ys x) ∙ over (alike (prop_in x) p) (value_in p ys)
  where
    over : (c : Bool) (o : Option PropValue) → option_or (cond c (Some x) o) (cond (alike (prop_in y) p) (Some y) None) ≡ cond c (Some x) (option_or o (cond (alike (prop_in y) p) (Some y) None))
    over true o = refl
    over false o = refl

pub value_in_none : (p : Prop) → value_in p [] ≡ None
unfolding value_in
value_in_none p = refl

-- what is found so far, after one value more
pub found_more : (p : Prop) (xs more : List PropValue) (x : PropValue) (old new : Option PropValue) → old ≡ value_in p xs → new ≡ cond (props.ghosts.eq (prop_in x) p) (Some x) old → more ≡ xs ++ x ∷ [] → new ≡ value_in p more
found_more p xs more x old new was is longer = is ∙ ap (cond (props.ghosts.eq (prop_in x) p) (Some x)) was ∙ sym (value_in_more p xs x) ∙ ap (value_in p) (sym longer)
