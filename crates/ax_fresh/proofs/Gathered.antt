-- The walk that gathers kids and puts in records.
use Rattle.std.proofs.Common.{◌≡◌, ℕ, suc, ◌+◌, ◌-◌, ◌*◌, ◌<◌, ◌≤◌, List, [], ◌∷◌, ◌++◌, length, get_or, take, Bool, true, false, cond, ◌||◌, ◌==◌, Some, None, Contains, refl, sym, ap, ◌∙◌, subst, arith, append_assoc, append-nil, add-one}
use Rattle.std.proofs.Math.Seq.{take-suc}
use Rattle.std.proofs.lemmas.Grind.{common_steps}
use Rattle.std.specs.List.{flat_map}
use Rattle.std.specs.Option.{unwrap_or}
use Rattle.std.specs.Ordering.{nat_cmp}
use Rattle.std.specs.BTreeMap.{insert_entry}
use Rattle.ax_base.specs.declared.body.Body.{Body}
use Rattle.ax_base.specs.declared.role.Role.{Role}
use Rattle.ax_base.specs.Document.{Document, has, root, depth, body, spot, children, IsChild}
use Rattle.ax_base.specs.Trees.{IsTree}
use Rattle.ax_base.specs.declared.states.Live.{Live}
use Rattle.ax_base.specs.Roles.{role_of, hides, children_presentational, ignored}
use Rattle.ax_base.specs.States.{live_by, sets_live}
use Rattle.ax_base.specs.Context.{is_out, is_shut, live_at}
use Rattle.ax_base.specs.Kids.{kids, taken, objects}
use Rattle.ax_base.proofs.Membership.{Contains-head}
use Rattle.ax_base.proofs.KidsLaws.{kids-children, out-child, shut-prunes}
use Rattle.ax_base.proofs.Places.{depth-level, has_children}
use Rattle.ax_base.proofs.Joins.{Contains-flat_map}
use Rattle.ax_base.proofs.Objects.{kids_are_objects}
use Rattle.ax_dom.specs.declared.cell.Cell.{Cell}
use Rattle.ax_dom.specs.NodeMaps.{cell_of, cell_at}
use Rattle.ax_record.specs.declared.record.Record.{Record}
use Rattle.ax_record.specs.Records.{record_of, object_parent}
use Rattle.ax_record.proofs.TreeOf.{object_parent_is}
use Rattle.ax_fresh.specs.Gathering.{with_records, put_order, AreKidsOf}
use Rattle.ax_fresh.proofs.Put.{with_records-append, put_order-kids}

flat_map-append : (f : ℕ → List ℕ) (xs ys : List ℕ) → flat_map f (xs ++ ys) ≡ flat_map f xs ++ flat_map f ys
flat_map-append f [] ys = refl
flat_map-append f (x ∷ xs) ys = ap (λ l. f x ++ l) (flat_map-append f xs ys) ∙ sym (append_assoc (f x) (flat_map f xs) (flat_map f ys))

flat_map-none : (f : ℕ → List ℕ) (xs : List ℕ) → ((x : ℕ) → Contains xs x → f x ≡ []) → flat_map f xs ≡ []
flat_map-none f [] none = refl
flat_map-none f (x ∷ xs) none =
    ap (λ l. l ++ flat_map f xs) (none x (Contains-head x xs)) ∙ flat_map-none f xs (λ y inside. none y (suc inside.0, (let h = inside.1 in omega arith), inside.2))

pub or-false : (b : Bool) → (b || false) ≡ b
or-false true = refl
or-false false = refl

or-true : (b : Bool) → (b || true) ≡ true
or-true true = refl
or-true false = refl

pub child_of : (d : Document) (n k x : ℕ) (xs : List ℕ) → xs ≡ children d n → k < length xs → x ≡ get_or xs k x → IsChild d n x
child_of d n k x xs same low is = subst (λ ys. Contains ys x) same (k, low, sym is)

pub cell_is : (d : Document) (n : ℕ) (x : Cell) → Some x ≡ cell_at d n → x ≡ cell_of d n
cell_is d n x = go (has d n)
  where
    go : (b : Bool) → Some x ≡ cond b (Some (cell_of d n)) None → x ≡ cell_of d n
    go true e = cc
    go false e = cc

module _ (d : Document) (t : IsTree d) where
  pub descends : (n c : ℕ) → IsChild d n c → 4 * (65 - depth d c) + 3 < 4 * (65 - depth d n)
  descends n c child =
      let e = depth-level d t n (has_children d n c child) in
      let f = depth-level d t c (t.known n c child) in
      let s = t.shallow c in
      let u = t.deeper n c child in
      omega arith

  -- where nothing is shown below a node, it has no kids
  pub shut_kids : (n : ℕ) → is_shut d n ≡ true → kids d n ≡ []
  shut_kids n shut =
      kids-children d t n
      ∙ flat_map-none (taken d) (children d n) (λ c child.
      ap (λ b. cond b [] (cond (ignored (spot d c)) (kids d c) (c ∷ []))) (out-child d t n c child ∙ ap (λ b. hides (spot d c) || b) shut ∙ or-true (hides (spot d c))))

  -- a visible node is shut where its role prunes
  pub shut_by_role : (n : ℕ) (r : Role) (b : Body) → has d n ≡ true → b ≡ body d n → r ≡ role_of (n == root) b → is_out d n ≡ false → children_presentational r ≡ is_shut d n
  shut_by_role n r b there is_body is_role visible =
      ap children_presentational (is_role ∙ ap (role_of (n == root)) is_body) ∙ sym (shut-prunes d t n there visible)

  -- a child of a node whose inside is shown is out where it hides
  pub out_by_itself : (n c : ℕ) → IsChild d n c → is_shut d n ≡ false → is_out d c ≡ hides (spot d c)
  out_by_itself n c child visible = out-child d t n c child ∙ ap (λ b. hides (spot d c) || b) visible ∙ or-false (hides (spot d c))

  hides_is : (n : ℕ) (b : Body) (h : Bool) → b ≡ body d n → h ≡ hides (record { id = n; body = b }) → hides (spot d n) ≡ h
  hides_is n b h is_body hid = (λ i. hides (record { id = n; body = sym is_body i })) ∙ sym hid

  -- a child that hides gives nothing
  pub taken_hidden : (n : ℕ) (b : Body) (h : Bool) → b ≡ body d n → h ≡ hides (record { id = n; body = b }) → h ≡ true → is_out d n ≡ hides (spot d n) → taken d n ≡ []
  taken_hidden n b h is_body hid on out = ap (λ x. cond x [] (cond (ignored (spot d n)) (kids d n) (n ∷ []))) (out ∙ hides_is n b h is_body hid ∙ on)

  -- one that does not is visible
  pub shown_child : (n : ℕ) (b : Body) (h : Bool) → b ≡ body d n → h ≡ hides (record { id = n; body = b }) → h ≡ false → is_out d n ≡ hides (spot d n) → is_out d n ≡ false
  shown_child n b h is_body hid off out = out ∙ hides_is n b h is_body hid ∙ off

  -- the live of a node, by what it sets and the live around it
  pub live_is : (n : ℕ) (b : Body) (r : Role) (live_given around : Live) → b ≡ body d n → r ≡ role_of (n == root) b → live_given ≡ unwrap_or (live_by r b) around
      → live_at d n ≡ unwrap_or (sets_live (spot d n)) around → live_given ≡ live_at d n
  live_is n b r live_given around is_body is_role given is =
      given ∙ (λ i. unwrap_or (live_by (is_role i) b) around) ∙ (λ i. unwrap_or (live_by (role_of (n == root) (is_body i)) (is_body i)) around) ∙ sym is

  -- the kids of a node from its children so far, and from the next one
  given : (n k c : ℕ) (cs : List ℕ) → k < length cs → c ≡ get_or cs k c → flat_map (taken d) (take (k + 1) cs) ≡ flat_map (taken d) (take k cs) ++ taken d c
  given n k c cs low is =
      ap (flat_map (taken d)) (ap (λ j. take j cs) (add-one k) ∙ take-suc cs k c low ∙ ap (λ x. take k cs ++ x ∷ []) (sym is))
      ∙ flat_map-append (taken d) (take k cs) (c ∷ []) ∙ ap (λ l. flat_map (taken d) (take k cs) ++ l) (append-nil (taken d c))

  pub more_kids : (n k c : ℕ) (old mid new : List ℕ) (cs : List ℕ) → k < length cs → c ≡ get_or cs k c
      → mid ≡ old ++ flat_map (taken d) (take k cs) → new ≡ mid ++ taken d c → new ≡ old ++ flat_map (taken d) (take (k + 1) cs)
  more_kids n k c old mid new cs low is so_far next =
      next ∙ ap (λ l. l ++ taken d c) so_far ∙ append_assoc old (flat_map (taken d) (take k cs)) (taken d c) ∙ ap (λ l. old ++ l) (sym (given n k c cs low is))

  pub more_records : (n k c : ℕ) (old mid new : List (ℕ × Record)) (cs : List ℕ) → k < length cs → c ≡ get_or cs k c
      → mid ≡ with_records d old (flat_map (put_order d) (flat_map (taken d) (take k cs))) → new ≡ with_records d mid (flat_map (put_order d) (taken d c))
      → new ≡ with_records d old (flat_map (put_order d) (flat_map (taken d) (take (k + 1) cs)))
  more_records n k c old mid new cs low is so_far next =
      next ∙ ap (λ es. with_records d es (flat_map (put_order d) (taken d c))) so_far
      ∙ sym (with_records-append d old (flat_map (put_order d) (flat_map (taken d) (take k cs))) (flat_map (put_order d) (taken d c)))
      ∙ ap (with_records d old) (sym (flat_map-append (put_order d) (flat_map (taken d) (take k cs)) (taken d c)) ∙ ap (flat_map (put_order d)) (sym (given n k c cs low is)))

  whole : (n k : ℕ) (cs : List ℕ) → cs ≡ children d n → length cs ≤ k → flat_map (taken d) (take k cs) ≡ kids d n
  whole n k cs same long =
      let all : take k cs ≡ cs = grind (arith, common_steps) in
      ap (flat_map (taken d)) (all ∙ same) ∙ sym (kids-children d t n)

  pub all_kids : (n k : ℕ) (old new cs : List ℕ) → cs ≡ children d n → length cs ≤ k → new ≡ old ++ flat_map (taken d) (take k cs) → new ≡ old ++ kids d n
  all_kids n k old new cs same long is = is ∙ ap (λ l. old ++ l) (whole n k cs same long)

  pub all_put : (n k : ℕ) (old new : List (ℕ × Record)) (cs : List ℕ) → cs ≡ children d n → length cs ≤ k
      → new ≡ with_records d old (flat_map (put_order d) (flat_map (taken d) (take k cs))) → new ≡ with_records d old (flat_map (put_order d) (kids d n))
  all_put n k old new cs same long is = is ∙ ap (λ l. with_records d old (flat_map (put_order d) l)) (whole n k cs same long)

  -- what a child gives hangs where its parent's kids hang
  pub hangs : (above n c : ℕ) → IsChild d n c → AreKidsOf d above (kids d n) → AreKidsOf d above (taken d c)
  hangs above n c child (one, each) = (one, λ k inside. each k (subst (λ l. Contains l k) (sym (kids-children d t n)) (Contains-flat_map (taken d) (children d n) c k child inside)))

  ignored_is : (n : ℕ) (b : Body) (skip : Bool) → b ≡ body d n → skip ≡ ignored (record { id = n; body = b }) → ignored (spot d n) ≡ skip
  ignored_is n b skip is_body skips = (λ i. ignored (record { id = n; body = sym is_body i })) ∙ sym skips

  -- an ignored child gives its kids
  pub taken_past : (n : ℕ) (b : Body) (skip : Bool) → b ≡ body d n → skip ≡ ignored (record { id = n; body = b }) → skip ≡ true → is_out d n ≡ false → taken d n ≡ kids d n
  taken_past n b skip is_body skips on visible =
      (λ i. cond (visible i) [] (cond (ignored (spot d n)) (kids d n) (n ∷ []))) ∙ ap (λ x. cond x (kids d n) (n ∷ [])) (ignored_is n b skip is_body skips ∙ on)

  -- any other child gives itself
  pub taken_self : (n : ℕ) (b : Body) (skip : Bool) → b ≡ body d n → skip ≡ ignored (record { id = n; body = b }) → skip ≡ false → is_out d n ≡ false → taken d n ≡ n ∷ []
  taken_self n b skip is_body skips off visible =
      (λ i. cond (visible i) [] (cond (ignored (spot d n)) (kids d n) (n ∷ []))) ∙ ap (λ x. cond x (kids d n) (n ∷ [])) (ignored_is n b skip is_body skips ∙ off)

  -- what is known of a child that is shown, by its cell: it is an object, the cell is the document's, its role is by it, it is visible and has this live, and it hangs on `above`
  pub child_object : (above n : ℕ) (x : Cell) (r : Role) (skip : Bool) → x ≡ cell_of d n → r ≡ role_of (n == root) x.body → skip ≡ ignored (record { id = n; body = x.body }) → skip ≡ false
      → is_out d n ≡ false → (live_given : Live) → live_given ≡ live_at d n → AreKidsOf d above (taken d n)
      → Contains (objects d) x.id × ((x ≡ cell_of d x.id) × ((r ≡ role_of (x.id == root) x.body) × ((is_out d x.id ≡ false) × ((live_given ≡ live_at d x.id) × (Some above ≡ object_parent d x.id)))))
  child_object above n x r skip cell is_role skips off visible live_given live_same (one, each) =
      let id_is : x.id ≡ n = ap (λ (y : Cell). y.id) cell in
      let gives : taken d n ≡ n ∷ [] = taken_self n x.body skip (ap (λ (y : Cell). y.body) cell) skips off visible in
      let kid : Contains (kids d above) n = each n (subst (λ l. Contains l n) (sym gives) (Contains-head n [])) in (
        subst (Contains (objects d)) (sym id_is) (kids_are_objects d t above n one kid),
        (
          cell ∙ ap (cell_of d) (sym id_is),
          (
            is_role ∙ ap (λ j. role_of (j == root) x.body) (sym id_is),
            (
              ap (is_out d) id_is ∙ visible,
              (
                live_same ∙ ap (live_at d) (sym id_is),
                sym (ap (object_parent d) id_is ∙ object_parent_is d t above n one kid),
              ),
            ),
          ),
        ),
      )

  -- the record of an object after those below it
  pub put_last : (n : ℕ) (old mid new : List (ℕ × Record)) (r : Record) → mid ≡ with_records d old (flat_map (put_order d) (kids d n)) → new ≡ insert_entry nat_cmp mid r.id r → r ≡ record_of d n
      → new ≡ with_records d old (put_order d n)
  put_last n old mid new r before put is =
      put ∙ ap (λ (x : Record). insert_entry nat_cmp mid x.id x) is ∙ ap (λ es. with_records d es (n ∷ [])) before
      ∙ sym (with_records-append d old (flat_map (put_order d) (kids d n)) (n ∷ [])) ∙ ap (with_records d old) (sym (put_order-kids d t n))
