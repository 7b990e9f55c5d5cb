use Rattle.sift_ether.specs.Steps.{deed_of}
use Rattle.sift_ether.proofs.port.EtherSeatPort.hear.Given as goal

-- the deed of the call
abbrev pub ghosts-load : goal.ghosts-load
ghosts-load a = record { deed = deed_of a.call }
