-- What a call by memory does: bytes in, bytes out.
use Rattle.std.specs.Prelude.{ℕ, ◌≡◌, ◌<◌, ◌≤◌, List, length, take}
use Rattle.sift_call.specs.Told.{IsTold}
use Rattle.sift_call.specs.Words.{words_in}

-- the status where the room is too small for the text: no reply has it
abbrev pub no_room_status : ℕ
no_room_status = 100

module _ (words input : List ℕ) where
  -- the status and the text are those of a reply that is owed to the input by the words, which stand in a text, one a line
  abbrev pub IsReply : (status : ℕ) (text : List ℕ) → Type 0
  IsReply status text = IsTold (words_in words) input status text

  -- the text of a reply stands at the front of the room, and the count is its length
  pub record HasReply (room : List ℕ) (count status : ℕ) : Type 0 where
    pub reply : IsReply status (take count room)
    pub fits : count ≤ length room

  -- the room is too small for the text of a reply: it is full of the front of it, and the count is the length of all of it
  pub record HasNoRoom (room : List ℕ) (count : ℕ) : Type 0 where
    pub status : ℕ
    pub text : List ℕ
    pub reply : IsReply status text
    pub count_is : count ≡ length text
    pub small : length room < count
    pub front : room ≡ take (length room) text
