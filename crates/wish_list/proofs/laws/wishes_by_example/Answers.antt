use Rattle.std.proofs.Common.{refl}
use Rattle.wish_list.proofs.laws.wishes_by_example.Goals as goal

pub returns : goal.returns
returns c = record {
  decisions = record {
    new = refl;
    waits = refl;
    fresh = refl;
    due = refl;
    ahead = refl;
    not_shown = refl;
    listed = refl;
    listed_in_vain = refl;
    no_room = refl;
    room_for_shown = refl;
    late = refl;
    next_minute = refl;
    minute_before = refl;
    set_back = refl;
  };
  notes = record {
    whole = refl;
    young = refl;
    old = refl;
    short = refl;
  };
  ends = record {
    asked = refl;
    asked_nobody = refl;
    no_wish = refl;
    no_more = refl;
    later_minute = refl;
  };
}
