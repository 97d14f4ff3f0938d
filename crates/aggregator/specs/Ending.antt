-- How the program ends if it fails: the failure that each fault is, the line on standard error, and the exit status.
use Rattle.std.specs.Prelude.{◌≡◌, ℕ, List, ◌++◌, codes, string_bytes, String, nat_lt, if◌then◌else◌}
use Rattle.std.specs.List.{flat_map}
use Rattle.std.specs.declared.alloc.Global.{Global}
use Rattle.std.specs.Fmt.{decimal}
use Rattle.replica_world.specs.declared.replaying.fault.ReplayFault.{ReplayFault}
use Rattle.replica_world.specs.declared.replaying.fault.ReplayFault.TheVariants as fault
use Rattle.service_settings.specs.Holding.{holding_words}
use Rattle.service_settings.specs.Keys.{name_of}
use Rattle.service_settings.specs.Shown.{shown}
use Rattle.service_settings.specs.declared.fault.SettingsFault.{SettingsFault}
use Rattle.service_settings.specs.declared.fault.SettingsFault.TheVariants as settings
use Rattle.service_threads.specs.declared.faults.ServeFault.{ServeFault}
use Rattle.service_threads.specs.declared.faults.ServeFault.TheVariants as serve
use Rattle.question_threads.specs.declared.faults.AskFault.{AskFault}
use Rattle.question_threads.specs.declared.faults.AskFault.TheVariants as ask
use Rattle.question_threads.specs.declared.asking.Ended.{Ended}
use Rattle.single_questions.specs.declared.outcomes.Outcome.{Outcome}
use Rattle.single_questions.specs.declared.outcomes.Outcome.TheVariants.{Found, Nothing, Unknown}
use Rattle.aggregator.specs.declared.failure.Failure.{Failure}
use Rattle.aggregator.specs.declared.failure.Failure.TheVariants.{Usage, InquiryUsage, NoOriginal, BadDatetime, BadLine, BadText, BadKey, BadValue, BadOriginal}
use Rattle.aggregator.specs.declared.failure.Failure.TheVariants.{NoGate, Device, Unread, NoMemory}

-- how a replay's fault ends the program
abbrev pub failure_of : ReplayFault → Failure
failure_of (fault.BadLine number) = BadLine number
failure_of fault.Read = Device
failure_of fault.Write = Device
failure_of fault.NoMemory = NoMemory

-- how a fault of the settings ends the program
abbrev pub failure_of_settings : SettingsFault → Failure
failure_of_settings settings.Text = BadText
failure_of_settings (settings.Key key) = BadKey key
failure_of_settings settings.NoMemory = NoMemory

-- how a fault of serving ends the program
abbrev pub failure_of_serving : ServeFault → Failure
failure_of_serving serve.NoGate = NoGate
failure_of_serving serve.Device = Device
failure_of_serving serve.NoMemory = NoMemory

-- how a fault of asking ends the program
abbrev pub failure_of_asking : AskFault → Failure
failure_of_asking ask.Device = Device
failure_of_asking ask.NoMemory = NoMemory

-- lines behind another one, each after a LF
abbrev pub behind : List (String Global) → List ℕ
behind lines = flat_map (λ line. codes "\n" ++ string_bytes line) lines

-- the most bytes of a file's name that are shown
abbrev pub most_of_name : ℕ
most_of_name = 4096

-- which entry of `originals` is none
abbrev pub entry_words : ℕ → List ℕ
entry_words number = codes "originals: entry " ++ decimal number ++ codes " is no original"

-- what stands on standard error, but for the LF at its end: one line, and behind it what more is told
abbrev pub message_of : Failure → List ℕ
message_of Usage = codes "usage: aggregator [replay | serve FILE | check FILE]"
message_of InquiryUsage =
    codes "usage: aggregator [timemap FILE ORIGINAL [--form link|json|cdxj] | timegate FILE ORIGINAL [YYYYMMDDhhmmss]]"
message_of NoOriginal = codes "bad original"
message_of BadDatetime = codes "bad datetime"
message_of (BadLine number) = codes "bad line " ++ decimal number
message_of BadText = codes "bad settings: text"
message_of (BadKey key) = codes "bad settings: " ++ name_of key
message_of (BadValue key unknown) =
    codes "bad settings: " ++ name_of key ++ codes "\n" ++ name_of key ++ codes ": " ++ holding_words key ++ behind unknown.items
message_of (BadOriginal number unknown) = codes "bad settings: originals\n" ++ entry_words number ++ behind unknown.items
message_of NoGate = codes "no gate"
message_of Device = codes "device fault"
message_of (Unread file) = codes "device fault\ncan't be read: " ++ string_bytes file
message_of NoMemory = codes "no memory"

-- 2 for wrong input, 3 for a device, a gate or memory
abbrev pub status_of : Failure → ℕ
status_of Usage = 2
status_of InquiryUsage = 2
status_of NoOriginal = 2
status_of BadDatetime = 2
status_of (BadLine number) = 2
status_of BadText = 2
status_of (BadKey key) = 2
status_of (BadValue key unknown) = 2
status_of (BadOriginal number unknown) = 2
status_of NoGate = 3
status_of Device = 3
status_of (Unread file) = 3
status_of NoMemory = 3

-- how the program ends if the settings in a file with this name can't be read
abbrev pub IsUnread : List ℕ → Failure → Type 0
IsUnread name (Unread file) = string_bytes file ≡ shown most_of_name name
IsUnread name Device = Unit {0}
IsUnread name NoMemory = Unit {0}
IsUnread name _ = ⊥

-- 0 if a memento is known, 1 if every archive has answered and none has one, 4 if none is known and an archive failed
abbrev pub status_of_outcome : Outcome → ℕ
status_of_outcome Found = 0
status_of_outcome Nothing = 1
status_of_outcome Unknown = 4

-- of a list: 2 if a line holds no original, and else the status for the worst of its questions
abbrev pub status_of_list : Ended → ℕ
status_of_list ended = if nat_lt 0 ended.bad then 2 else status_of_outcome ended.outcome
