-- How far a job has come.
use Rattle.std.specs.Prelude.{◌≡◌, ℕ, List}
use Rattle.sift_reply.specs.Reply.{Reply, done}
use Rattle.sift_reply.specs.declared.reply.Begun.{Begun}
use Rattle.sift_reply.specs.declared.reply.Begun.TheVariants.{Replied, Left}

module _ {W : Type 0} (gives : W → List ℕ → Type 0) where
  -- this reply may come of it: it is there, or has a text that may come of what is left
  abbrev pub MayCome : Begun W → Reply → Type 0
  MayCome (Replied reply) came = came ≡ reply
  MayCome (Left work) came = (text : List ℕ) × gives work text × (came ≡ done text)

  -- all replies that may come of it are among these
  abbrev pub ComesTo : (among : Reply → Type 0) → Begun W → Type 0
  ComesTo among begun = (reply : Reply) → MayCome begun reply → among reply
