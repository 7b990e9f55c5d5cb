-- What a room holds that begins with the text of a reply.
use Rattle.std.proofs.Common.{◌≡◌, ◌∙◌, ℕ, ◌<◌, ◌≤◌, List, length, take, sym, arith}
use Rattle.std.proofs.lemmas.List.{take_all}
use Rattle.sift_call.specs.Room.{BeginsWith}
use Rattle.sift_library.specs.Called.{HasNoRoom, HasReply, IsReply}

-- the room begins with the text of a reply that has this status and this length
abbrev pub Begins : (words input room : List ℕ) (count status : ℕ) → Type 0
Begins words input room count status =
    (text : List ℕ) × IsReply words input status text × BeginsWith room text × (count ≡ length text)

module _ (words input room : List ℕ) (count status : ℕ) where
  -- where there is place for it the text stands at the front
  pub has_reply : Begins words input room count status → count ≤ length room → HasReply words input room count status
  has_reply (text, owed, begins, long) fits =
      let is : take count room ≡ text = rw long (begins ∙ take_all (length room) text (omega (arith, fits, long))) in
      record { reply = rw is owed; fits = fits }

  -- and else the room is full of the front of it
  pub has_no_room : Begins words input room count status → length room < count → HasNoRoom words input room count
  has_no_room (text, owed, begins, long) small =
      let full = take_all (length text) room (omega (arith, small, long)) in
      record { status = status; text = text; reply = owed; count_is = long; small = small; front = sym full ∙ begins }
