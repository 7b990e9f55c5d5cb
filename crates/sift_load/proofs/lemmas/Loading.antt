-- What follows of the replies for missions for those to bytes.
pub use Rattle.sift_load.proofs.Loaded.{one_reply, statuses_are_own}
