use Rattle.sift_call.proofs.Filling.{begins}
use Rattle.sift_call.proofs.room.RoomOut.length.Goals as goal

pub returns-clause-begins : goal.returns-clause-begins
returns-clause-begins c = let sink = c.args.self.now in begins sink.room.now sink.beyond.now.items sink.count sink.within sink.full
