use Rattle.sift_ether.specs.Steps.{deed_of}
use Rattle.sift_ether.proofs.port.EtherSeatPort.enter.Given as goal

-- the deed of the call
abbrev pub ghosts-store : goal.ghosts-store
ghosts-store a = record { deed = deed_of a.call }
