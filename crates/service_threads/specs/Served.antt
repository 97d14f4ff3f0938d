-- What the gates of a service may reply.
use Rattle.std.specs.Prelude.{◌≡◌, ℕ, List}
use Rattle.timegate.specs.declared.request.Request.{Request}
use Rattle.timegate.specs.declared.reply.Reply.{Reply}
use Rattle.timemap_formats.specs.declared.forms.Forms.{Forms}
use Rattle.format_gates.specs.Converted.{ShowsInForms}
use Rattle.part_gates.specs.Parts.{IsReplyOrPartOf}

-- in these forms a reply, or a part, of a gate of this base
abbrev pub IsServed : List ℕ → Forms → Request → Reply → Type 0
IsServed base forms q made = ShowsInForms (IsReplyOrPartOf base) forms q made
