use Rattle.std.proofs.Common.{refl}
use Rattle.aggregator_service.proofs.serving.serve_settings.Goals as goal

-- the ledger begins with the merger that is given
pub serve_opened-requires-clause-begun : goal.serve_opened-requires-clause-begun
serve_opened-requires-clause-begun g c κs within = refl
