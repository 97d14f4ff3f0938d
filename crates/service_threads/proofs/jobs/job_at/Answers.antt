use Rattle.std.proofs.Common.{◌≡◌, ◌++◌, Some, arith, length, refl, sym, subst}
use Rattle.std.proofs.lemmas.Option.{slice_get_read}
use Rattle.std.specs.Prelude.{slice_get}
use Rattle.service_threads.proofs.jobs.job_at.Goals as goal

pub returns-clause-own : goal.returns-clause-own
returns-clause-own c =
    let found : slice_get c.args.settings.now.archives.items c.args.place ≡ Some c.in_ok-archive.archive.now =
    slice_get_read c.args.settings.now.archives.items (length c.args.settings.now.archives.items) c.args.place
    c.in_ok-archive.archive.now refl (grind arith) (grind arith) in
    record {
      archive = c.in_ok-archive.archive.now;
      listed = found;
      name = c.in_ok-job.ensures.archive;
      first = subst (λ original. c.in_ok-job.job.first ≡ c.in_ok-archive.archive.now.timemap ++ original)
          (sym c.in_ok-job.ensures.original) c.in_ok-job.ensures.first;
    }
