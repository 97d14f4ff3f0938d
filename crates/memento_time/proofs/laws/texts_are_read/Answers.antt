use Rattle.memento_time.proofs.ReadLemmas.{Reads-imf, Reads_unique}
use Rattle.memento_time.proofs.SecondOfLemmas.{second_of-Reads, Reads-second_of, asked_of-Asks, Asks-asked_of}
use Rattle.memento_time.proofs.laws.texts_are_read.Goals as goal

pub returns-clause-own : goal.returns-clause-own
returns-clause-own c = Reads-imf

pub returns-clause-one : goal.returns-clause-one
returns-clause-one c = Reads_unique

pub returns-clause-second : goal.returns-clause-second
returns-clause-second c = λ text s. (Reads-second_of text s, second_of-Reads text s)

pub returns-clause-asked : goal.returns-clause-asked
returns-clause-asked c = λ text s. (Asks-asked_of text s, asked_of-Asks text s)
