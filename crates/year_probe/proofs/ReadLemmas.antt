-- Originals that read as themselves may be wished for.
use Rattle.std.proofs.Common.{◌≡◌, ℕ, List, ap}
use Rattle.std.specs.Prelude.{Ok}
use Rattle.std.specs.Result.{result_ok}
use Rattle.timemap_reader.specs.Original.{Reading, original_reading}
use Rattle.wish_list.specs.Asked.{IsRead}

pub read_of_kept : (original : List ℕ) → original_reading original ≡ Ok original → IsRead original
read_of_kept original kept = record { itself = ap (λ (reading : Reading). result_ok reading) kept }
