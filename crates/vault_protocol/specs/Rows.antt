-- Scripts that were worked out by hand, and what the definitions have to print for them.
use Rattle.std.specs.Prelude.{◌≡◌, ◌*◌, List, ℕ, ◌++◌, codes, replicate}
use Rattle.vault_protocol.specs.Script.{output}

-- a script of no bytes prints nothing
abbrev pub Empty : Type 0
Empty = output (codes "") ≡ codes ""

-- the last line may lack its line feed, and a commit has nothing to do
abbrev pub OneLine : Type 0
OneLine =
    (output (codes "@1 hello anna") ≡ codes "@1 OK session 1\n") × (output (codes "@1 hello anna\n!commit\n") ≡ codes "@1 OK session 1\n")

-- of two claims on one place, the second waits
abbrev pub TwoDesigners : Type 0
TwoDesigners =
    output (codes "@1 hello anna\n@2 hello ben\n@1 make /e\n@1 checkout w:/e\n@2 checkout r:/e\n")
    ≡ codes "@1 OK session 1\n@2 OK session 2\n@1 OK place 1\n@1 OK held c1\n@2 OK queued c2 behind c1\n"

-- two designers, an assembly and two parts
abbrev pub begun : List ℕ
begun = codes "@1 hello anna\n@2 hello ben\n@1 make /e\n@1 make /e/b\n@1 make /e/b/p1\n@1 make /e/b/p2\n"

-- what is printed for them
abbrev pub begun_output : List ℕ
begun_output = codes "@1 OK session 1\n@2 OK session 2\n@1 OK place 1\n@1 OK place 2\n@1 OK place 3\n@1 OK place 4\n"

-- claims on siblings don't overlap
abbrev pub Siblings : Type 0
Siblings =
    output (begun ++ codes "@1 checkout w:/e/b/p1\n@2 checkout w:/e/b/p2\n")
    ≡ begun_output ++ codes "@1 OK held c1\n@2 OK held c2\n"

-- while a claim looks at an assembly and changes one of its parts, others may look at the other parts, but not at that part
abbrev pub LookAboveChange : Type 0
LookAboveChange =
    output (begun ++ codes "@1 checkout r:/e/b w:/e/b/p1\n@2 checkout r:/e/b/p2\n@2 checkout r:/e/b/p1\n")
    ≡ begun_output ++ codes "@1 OK held c1\n@2 OK held c2\n@2 OK queued c3 behind c1\n"

-- a waiting claim is granted (held) once the claim before it is abandoned
abbrev pub LineMovesUp : Type 0
LineMovesUp =
    output (begun ++ codes "@1 checkout r:/e\n@2 checkout w:/e/b\n@1 checkout r:/e/b\n@1 abandon c1\n@1 state c2\n@1 state c3\n")
    ≡ begun_output ++ codes "@1 OK held c1\n@2 OK queued c2 behind c1\n@1 OK queued c3 behind c2\n@1 OK abandoned\n@1 OK held c2\n@1 OK queued c3 behind c2\n"

-- no place is made under a place that a granted claim covers
abbrev pub CoveredParent : Type 0
CoveredParent =
    output (begun ++ codes "@1 checkout r:/e\n@2 make /e/c\n")
    ≡ begun_output ++ codes "@1 OK held c1\n@2 ERR 23 c1\n"

-- an extension is refused if another granted claim is in its way, and changes nothing
abbrev pub ExtensionRefused : Type 0
ExtensionRefused =
    output (begun ++ codes "@1 checkout r:/e/b/p1\n@2 checkout r:/e/b/p1\n@1 extend c1 w:/e/b/p1\n@1 state c1\n@2 state c2\n")
    ≡ begun_output ++ codes "@1 OK held c1\n@2 OK held c2\n@1 ERR 33 c2\n@1 OK held c1\n@2 OK held c2\n"

-- an extended claim goes to the front of the queue
abbrev pub ExtensionToFront : Type 0
ExtensionToFront =
    output (begun ++ codes "@2 checkout r:/e/b/p1\n@1 checkout r:/e/b/p2\n@2 checkout w:/e/b\n@1 extend c2 w:/e/b/p2\n@2 state c3\n")
    ≡ begun_output ++ codes "@2 OK held c1\n@1 OK held c2\n@2 OK queued c3 behind c1\n@1 OK held c2\n@2 OK queued c3 behind c2\n"

-- a place is made under a covered one only in the name of a check-out that changes it
abbrev pub MakeUnderClaims : Type 0
MakeUnderClaims =
    output (begun ++ codes "@1 checkout r:/e\n@2 make /e/b/p9\n@1 make /e/b/p9 c1\n@1 extend c1 w:/e/b\n@1 make /e/b/p9 c1\n@2 make /e/b/p8\n@2 make /f\n")
    ≡ begun_output ++ codes "@1 OK held c1\n@2 ERR 23 c1\n@1 ERR 34\n@1 OK held c1\n@1 OK place 5\n@2 ERR 23 c1\n@2 OK place 6\n"

-- a check-out waits behind a hold
abbrev pub HoldFirst : Type 0
HoldFirst =
    output (begun ++ codes "@2 hold w:/e/b\n@1 checkout r:/e/b/p1\n")
    ≡ begun_output ++ codes "@2 OK held h1\n@1 OK queued c1 behind h1\n"

-- only its session can release a hold, and the hold ends with the session
abbrev pub Holds : Type 0
Holds =
    output (begun ++ codes "@2 hold r:/e/b/p1\n@1 checkout w:/e/b/p1\n@1 release h1\n@2 release h1\n@1 state c1\n@2 hold r:/e/b/p1\n@2 quit\n@1 state h2\n")
    ≡ begun_output ++ codes "@2 OK held h1\n@1 OK queued c1 behind h1\n@1 ERR 31\n@2 OK released\n@1 OK held c1\n@2 OK queued h2 behind c1\n@2 OK left\n@1 ERR 30\n"

-- the places right under one, in the order of their numbers
abbrev pub Lists : Type 0
Lists =
    output (begun ++ codes "@1 list /\n@2 list /e/b\n@2 list /e/b/p1\n@1 list /f\n")
    ≡ begun_output ++ codes "@1 OK list 1 e\n@2 OK list 2 p1 p2\n@2 OK list 0\n@1 ERR 20\n"

-- one refusal after another; a connection has no session once it left
abbrev pub Refusals : Type 0
Refusals =
    output (codes "@1 list /\n@1 hello Anna\n@1 hello anna\n@1 hello anna\nfoo\n@1 make /\n@1 make /x/y\n@1 state c1\n@1 state c0\n@1 quit\n@1 list /\n")
    ≡ codes "@1 ERR 11\n@1 ERR 10\n@1 OK session 1\n@1 ERR 12\n! ERR 10\n@1 ERR 21\n@1 ERR 20\n@1 ERR 30\n@1 ERR 10\n@1 OK left\n@1 ERR 11\n"

-- empty lines and comments print nothing; lines of no connection, and of no command, are bad
abbrev pub BadLines : Type 0
BadLines =
    output (codes "\n# @1 hello anna\n@1 \n@1\n@01 hello anna\n@0 hello anna\n@65 hello anna\n@64  hello anna\n!pumps\n!crash 0A\n!snapshots\n @1 hello anna\n@2 hello ben\r\n\n")
    ≡ codes "@1 ERR 10\n! ERR 10\n! ERR 10\n! ERR 10\n! ERR 10\n@64 ERR 10\n! ERR 10\n! ERR 10\n! ERR 10\n! ERR 10\n@2 ERR 10\n"

-- this number of bytes 0, in digits
abbrev pub zeros : ℕ → List ℕ
zeros count = replicate (2 * count) 48

-- drafts of at most 1,024 bytes become versions at check-in, the last of each part
abbrev pub Versions : Type 0
Versions =
    output
    (begun ++ codes "@1 checkout w:/e/b\n@1 save c1 /e/b/p1 " ++ zeros 1024 ++ codes "\n@1 save c1 /e/b/p1 " ++ zeros 1025
    ++ codes "\n@1 save c1 /e/b/p1 -\n@1 save c1 /e/b/p1 6162\n@1 save c1 /e/b/p2 -\n@1 checkin c1\n@1 fetch /e/b/p1 0\n@1 fetch /e/b/p1 1\n@1 fetch /e/b/p1 2\n@1 fetch /e/b/p2 1\n@1 state c1\n")
    ≡ begun_output ++ codes "@1 OK held c1\n@1 OK saved\n@1 ERR 50\n@1 OK saved\n@1 OK saved\n@1 OK saved\n@1 OK checked in 2\n@1 ERR 40\n@1 OK content 6162\n@1 ERR 40\n@1 OK content -\n@1 ERR 30\n"

-- drafts are refused as other commands with a claim are, and for a place that is no part
abbrev pub DraftRefusals : Type 0
DraftRefusals =
    output
    (begun ++ codes "@1 checkout w:/e/b\n@2 checkout w:/e/b/p1\n@2 save c1 /e/b/p1 00\n@2 save c2 /e/b/p1 00\n@2 checkin c2\n@2 extend c2 r:/e\n@1 save c1 /e/b/p3 00\n@1 save c1 /e/b 00\n@1 save c9 / 00\n@2 abandon c2\n"
    ++ codes "@1 extend c1 r:/e r:/e r:/e r:/e r:/e r:/e r:/e r:/e\n@1 checkout r:/x r:/x r:/x r:/x r:/x r:/x r:/x r:/x r:/x\n")
    ≡ begun_output ++ codes "@1 OK held c1\n@2 OK queued c2 behind c1\n@2 ERR 31\n@2 ERR 32\n@2 ERR 32\n@2 ERR 32\n@1 ERR 20\n@1 ERR 22\n@1 ERR 30\n@2 OK abandoned\n@1 ERR 36\n@1 ERR 36\n"

-- a draft is saved only of a part that the check-out changes; digits are read in either case, and printed in lower case
abbrev pub CoveredForChange : Type 0
CoveredForChange =
    output (begun ++ codes "@1 checkout r:/e/b w:/e/b/p1\n@1 save c1 /e/b/p2 00\n@1 save c1 /e/b/p1 0A\n@1 checkin c1\n@2 fetch /e/b/p1 1\n@2 count /e/b/p1\n@2 count /e\n")
    ≡ begun_output ++ codes "@1 OK held c1\n@1 ERR 34\n@1 OK saved\n@1 OK checked in 1\n@2 OK content 0a\n@2 OK versions 1\n@2 ERR 22\n"

-- what spells no content, and what spells no version
abbrev pub BadContents : Type 0
BadContents =
    output (codes "@1 save c1 /e\n@1 save c1 /e 0\n@1 save c1 /e 000\n@1 save c1 /e 0g\n@1 save c1 /e --\n@1 save c1 /e \n@1 save h1 /e 00\n@1 checkin h1\n@1 fetch /e 01\n@1 fetch /e -1\n@1 fetch /e 4294967296\n@1 fetch /e\n@1 count /e 1\n@1 fetch /e 4294967295\n")
    ≡ codes "@1 ERR 10\n@1 ERR 10\n@1 ERR 10\n@1 ERR 10\n@1 ERR 10\n@1 ERR 10\n@1 ERR 10\n@1 ERR 10\n@1 ERR 10\n@1 ERR 10\n@1 ERR 10\n@1 ERR 10\n@1 ERR 10\n@1 ERR 11\n"

-- a crash with this pick, while a commit's gate (its commit mark) is being opened
abbrev pub gate_stopped : List ℕ → List ℕ
gate_stopped pick =
    output (begun ++ codes "!commit\n@1 make /f\n!pump\n!pump\n!pump\n!crash " ++ pick ++ codes "\n@1 hello anna\n@1 list /\n")

-- the commit counts if the gate is found open; its reply is never printed
abbrev pub GateStopped : Type 0
GateStopped =
    (gate_stopped (codes "old") ≡ begun_output ++ codes "@1 OK session 1\n@1 OK list 1 e\n")
    × (gate_stopped (codes "07") ≡ begun_output ++ codes "@1 OK session 1\n@1 OK list 1 e\n")
    × (gate_stopped (codes "new") ≡ begun_output ++ codes "@1 OK session 1\n@1 OK list 2 e f\n")
    × (gate_stopped (codes "01") ≡ begun_output ++ codes "@1 OK session 1\n@1 OK list 2 e f\n")

-- after a crash a hold is gone, and the check-out that waited behind it is granted
abbrev pub HoldGone : Type 0
HoldGone =
    output (begun ++ codes "@2 hold w:/e/b\n@1 checkout r:/e/b/p1\n!commit\n!crash old\n@1 hello anna\n@1 state c1\n@1 state h1\n")
    ≡ begun_output ++ codes "@2 OK held h1\n@1 OK queued c1 behind h1\n@1 OK session 1\n@1 OK held c1\n@1 ERR 30\n"

-- after a crash an extended claim is still at the front of the queue
abbrev pub FrontKept : Type 0
FrontKept =
    output (begun ++ codes "@2 checkout r:/e/b/p1\n@1 checkout r:/e/b/p2\n@2 checkout w:/e/b\n@1 extend c2 w:/e/b/p2\n@2 state c3\n!commit\n!crash old\n@1 hello anna\n@1 state c3\n")
    ≡ begun_output ++ codes "@2 OK held c1\n@1 OK held c2\n@2 OK queued c3 behind c1\n@1 OK held c2\n@2 OK queued c3 behind c2\n@1 OK session 1\n@1 OK queued c3 behind c2\n"

-- each of these scripts prints what was worked out
pub record Rows : Type 0 where
  pub empty : Empty
  pub one_line : OneLine
  pub two_designers : TwoDesigners
  pub siblings : Siblings
  pub look_above_change : LookAboveChange
  pub line_moves_up : LineMovesUp
  pub covered_parent : CoveredParent
  pub extension_refused : ExtensionRefused
  pub extension_to_front : ExtensionToFront
  pub make_under_claims : MakeUnderClaims
  pub hold_first : HoldFirst
  pub holds : Holds
  pub lists : Lists
  pub versions : Versions
  pub draft_refusals : DraftRefusals
  pub covered_for_change : CoveredForChange
  pub bad_contents : BadContents
  pub refusals : Refusals
  pub bad_lines : BadLines
  pub gate_stopped : GateStopped
  pub hold_gone : HoldGone
  pub front_kept : FrontKept
