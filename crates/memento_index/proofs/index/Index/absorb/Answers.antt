use Rattle.std.proofs.Common.{◌≡◌, ◌++◌, OnOk, sym, ap, subst, ◌∙◌}
use Rattle.harvest_lattice.specs.Lattice.{Entries, join}
use Rattle.harvest_lattice.specs.Knowledge.{lat}
use Rattle.harvest_lattice.proofs.Knowledge.{lat-append}
use Rattle.memento_index.specs.Merges.{adds_of}
use Rattle.memento_index.proofs.index.Index.absorb.Goals as goal

pub returns-clause-stands : goal.returns-clause-stands
returns-clause-stands c hs is =
    let more = lat (adds_of c.args.merge.now) in
    let whole : join c.args.self.now c.in_ok-changes.changes ≡ lat (hs ++ adds_of c.args.merge.now) =
    c.in_ok-changes.ensures.news.whole
    ∙ (ap (λ (x : Entries). join x more) is ∙ sym (lat-append hs (adds_of c.args.merge.now))) in
    subst (λ (x : Entries). OnOk c.put.result (c.put.new.self ≡ x)) whole c.put.ensures.ok
