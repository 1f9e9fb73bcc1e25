-- Ports as contracts see them, and what each call makes of a port's record.
use Rattle.std.specs.Prelude.{◌≡◌, ℕ, ◌+◌, ◌++◌, [], ◌∷◌, Bool, true, Option, Some, None}
use Rattle.turn_word.specs.declared.view.Deed.{Deed}
use Rattle.turn_word.specs.declared.view.PageRecord.{PageRecord}
use Rattle.turn_word.specs.declared.view.ClientRecord.{ClientRecord}
use Rattle.turn_word.specs.Rules.{InOrder, SeenTrue, DeedsTrue}
use Rattle.turn_word.specs.Ports.{LockId}
use Rattle.turn_word.specs.Views.{new_page, new_client}
use Rattle.story_check.specs.Stories.{Story}
use Rattle.ax_port.specs.Spans.{IsWithinCap}

-- the lock that both ports share: which one it is, and the story that it was opened for
pub record PortsState : Type 0 where
  pub table : LockId
  pub story : Story

-- the page's port: its lock, its story, and what the page has done
pub record PageState : Type 0 where
  pub table : LockId
  pub story : Story
  pub page : PageRecord

-- the client's port: its lock, its story, and what the client has done
pub record ClientState : Type 0 where
  pub table : LockId
  pub story : Story
  pub client : ClientRecord

-- a port that was given up, which no contract sees, has no story and no record
abbrev pub no_story : Story
no_story = record { base = []; page = []; client = []; turns = [] }

abbrev pub story_or : Option Story → Story
story_or (Some s) = s
story_or None = no_story

abbrev pub page_or : Option PageRecord → PageRecord
page_or (Some r) = r
page_or None = new_page

abbrev pub client_or : Option ClientRecord → ClientRecord
client_or (Some r) = r
client_or None = new_client

-- the page's port with this record
abbrev pub with_page : PageState → PageRecord → PageState
with_page v r = record v { page = r }

-- the client's port with this record
abbrev pub with_client : ClientState → ClientRecord → ClientState
with_client v r = record v { client = r }

-- one moment more is published
abbrev pub published_more : PageRecord → PageRecord
published_more r = record r { published = r.published + 1 }

-- the page looked once more, and read this taken moment and over bit
abbrev pub looked : PageRecord → ℕ → Bool → PageRecord
looked r t over = record r { seen = t; seen_over = over; looks = r.looks + 1 }

-- the page is over
abbrev pub over_page : PageRecord → PageRecord
over_page r = record r { over = true }

-- the client is over
abbrev pub over_client : ClientRecord → ClientRecord
over_client r = record r { over = true }

-- the client did one deed more
abbrev pub done : ClientRecord → Deed → ClientRecord
done r d = record r { deeds = r.deeds ++ d ∷ [] }

-- the client has taken the moments up to p
abbrev pub taken_up_to : ClientRecord → ℕ → ClientRecord
taken_up_to r p = record r { taken = p }

-- the same port: its lock and its story stay
abbrev pub SamePage : PageState → PageState → Type 0
SamePage a b = (b.table ≡ a.table) × (b.story ≡ a.story)

abbrev pub SameClient : ClientState → ClientState → Type 0
SameClient a b = (b.table ≡ a.table) × (b.story ≡ a.story)

-- what the rule of the lock says of the two records at the end
pub record IsLast (s : Story) (page : PageRecord) (client : ClientRecord) : Type 0 where
  pub in_order : InOrder (IsWithinCap s) page.published client.taken
  pub seen_true : SeenTrue page client.taken client.over
  pub deeds_true : DeedsTrue (IsWithinCap s) client.deeds page.published client.taken page.over
