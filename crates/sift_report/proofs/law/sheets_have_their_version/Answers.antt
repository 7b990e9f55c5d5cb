use Rattle.sift_report.proofs.SheetVersions.{have_their_version}
use Rattle.sift_report.proofs.law.sheets_have_their_version.Goals as goal

pub returns : goal.returns
returns c = have_their_version
