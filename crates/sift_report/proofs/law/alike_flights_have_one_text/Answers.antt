use Rattle.sift_report.proofs.SameTexts.{one_text}
use Rattle.sift_report.proofs.law.alike_flights_have_one_text.Goals as goal

pub returns : goal.returns
returns c = one_text
