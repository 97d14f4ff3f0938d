use Rattle.timemap_formats.proofs.JsonLemmas.{document_of, found_in_json}
use Rattle.timemap_formats.proofs.laws.json_is_read.Goals as goal

pub returns-clause-value : goal.returns-clause-value
returns-clause-value c = document_of

pub returns-clause-mementos : goal.returns-clause-mementos
returns-clause-mementos c = found_in_json
