use Rattle.single_questions.proofs.DatetimeLemmas.{moment_read, whole_array}
use Rattle.single_questions.proofs.datetimes.read_digits.Goals as goal

pub returns : goal.returns
returns c =
    let (same, long) = whole_array c.args.text.now _ _ c.try_into.ensures.1 c.in_ok-digits.ensures.value in
    moment_read c.args.text.now c.in_ok-digits.digits.now c.in_ok-month.month c.as_imf.result c.month_name.result c.read_imf.result
    same long c.month_name.ensures c.in_ok-month.was c.as_imf.ensures c.read_imf.ensures.value
