use Rattle.timegate.proofs.Pages.{page_asked_for}
use Rattle.timegate.proofs.laws.pages_stand_at_their_numbers.Goals as goal

pub returns : goal.returns
returns c = page_asked_for
