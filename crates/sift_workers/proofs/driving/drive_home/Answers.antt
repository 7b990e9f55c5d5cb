use Rattle.sift_workers.proofs.Dealt.{zip_on}
use Rattle.sift_workers.proofs.Places.{written_over}
use Rattle.sift_workers.proofs.driving.drive_home.Goals as goal

pub returns : goal.returns
returns g c =
    let P = g.P.Pilot in
    λ starts came. zip_on P.comes P.drives P.is_home g.met.P.Pilot.comes_on starts c.args.pilots.items _ came
    (written_over P.comes P.is_home c.args.pilots.items c.as_mut_slice.result.now c.come_home.new.pilots c.args.pilots.len
    c.as_mut_slice.ensures.value c.args.pilots.ok.0 c.come_home.ensures.comes c.come_home.ensures.home)
