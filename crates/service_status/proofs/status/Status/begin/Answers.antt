use Rattle.service_status.specs.declared.status.ArchiveStatus.{ArchiveStatus}
use Rattle.service_status.proofs.SeriesLemmas.{apart_by_keys}
use Rattle.service_status.proofs.status.Status.begin.Goals as goal

pub returns : goal.returns
returns c = record {
  apart = λ names. record {
    archives = apart_by_keys (λ (archive : ArchiveStatus). archive.name) c.in_ok-begun_archives.field-0.items (rw c.in_ok-begun_archives.ensures names);
    peers = c.in_ok-numbered_peers.ensures;
    gates = c.in_ok-numbered_gates.ensures;
  };
}
