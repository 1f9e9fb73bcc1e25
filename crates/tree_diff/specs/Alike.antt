-- What records are made of.
use Rattle.std.specs.Prelude.{◌≡◌, ℕ, true, false, List}
use Rattle.ax_base.specs.Document.{Document, body, has}
use Rattle.ax_base.specs.Context.{is_out, live_at}
use Rattle.ax_base.specs.Kids.{kids}
use Rattle.ax_base.specs.AccessibleNames.{name_of, description_of}
use Rattle.ax_dom.specs.Among.{is_in}

-- What a record of the node would be made of is the same in both documents, but for the object that the node hangs on.
pub record IsAlike (old now : Document) (n : ℕ) : Type 0 where
  pub was : has old n ≡ true
  pub body_same : body old n ≡ body now n
  pub out : is_out old n ≡ is_out now n
  pub live : live_at old n ≡ live_at now n
  pub kids_are : kids old n ≡ kids now n
  pub name : name_of old n ≡ name_of now n
  pub description : description_of old n ≡ description_of now n

-- each node of the second document that is not among some is alike in both
abbrev pub AreAlikeBut : Document → Document → List ℕ → Type 0
AreAlikeBut old now ns = (n : ℕ) → has now n ≡ true → is_in ns n ≡ false → IsAlike old now n
