use Rattle.timemap_formats.proofs.WritingLemmas.{pieces_written}
use Rattle.timemap_formats.proofs.json_form.push_forms.Goals as goal

pub returns : goal.returns
returns c =
    pieces_written c.args.out.now c.token.new.self c.push_form.new.out c.push_form-2.new.out c.push_form-3.new.out c.token-2.new.self _ _ _ _ _
    c.in_ok-token.ensures.ok c.in_ok-push_form.ensures c.in_ok-push_form-2.ensures c.in_ok-push_form-3.ensures c.in_ok-token-2.ensures.ok
