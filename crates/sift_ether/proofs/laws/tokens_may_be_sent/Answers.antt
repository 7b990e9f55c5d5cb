use Rattle.sift_ether.proofs.seat.Token.TheSendSync as token
use Rattle.sift_ether.proofs.laws.tokens_may_be_sent.Goals as goal

pub returns : goal.returns
returns c = token.the_send
