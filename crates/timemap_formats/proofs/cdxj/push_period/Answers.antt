use Rattle.std.proofs.Common.{List, ℕ, ◌++◌, ◌∙◌, ap}
use Rattle.memento_time.specs.Second.{imf}
use Rattle.timemap_formats.proofs.WritingLemmas.{four_written}
use Rattle.timemap_formats.proofs.cdxj.push_period.Goals as goal

pub returns : goal.returns
returns c =
    let out = c.args.out.now.items in
    let second = c.extend_from_slice-2.new.self.items in
    four_written out c.extend_from_slice.new.self.items second c.extend_from_slice-3.new.self.items c.extend_from_slice-4.new.self.items
    (imf c.args.page.now.from) _ (imf c.args.page.now.until) _
    (c.in_ok-extend_from_slice.ensures.items ∙ ap (λ (t : List ℕ). out ++ t) c.write.ensures.text) c.in_ok-extend_from_slice-2.ensures.items
    (c.in_ok-extend_from_slice-3.ensures.items ∙ ap (λ (t : List ℕ). second ++ t) c.write-2.ensures.text) c.in_ok-extend_from_slice-4.ensures.items
