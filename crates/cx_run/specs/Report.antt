-- The text of the report, byte for byte.
use Rattle.std.specs.Prelude.{ℕ, ◌-◌, ◌++◌, ◌==◌, List, [], if◌then◌else◌, codes, decimal, slice_get}
use Rattle.std.specs.List.{flat_map}
use Rattle.std.specs.Option.{option_map_or}
use Rattle.cx_base.specs.declared.span.Span.{Span}
use Rattle.cx_base.specs.Place.{line_of, column_of}
use Rattle.cx_form.specs.declared.tree.RegionType.{RegionType}
use Rattle.cx_form.specs.declared.tree.TypeFile.{TypeFile}
use Rattle.cx_sorts.specs.declared.verdict.Access.{Access}
use Rattle.cx_sorts.specs.declared.verdict.Condition.{Condition}

-- line, column and number of bytes of a piece of the source
abbrev pub place : List ℕ → Span → List ℕ
place source span = decimal (line_of source span.first) ++ codes ":" ++ decimal (column_of source span.first) ++ codes "+" ++ decimal (span.past - span.first)

-- the name of the region type at a place of the type file
abbrev pub region_name : TypeFile → ℕ → List ℕ
region_name types k = option_map_or (λ (r : RegionType). r.name.text) (slice_get types.regions k) []

abbrev pub access_line : List ℕ → TypeFile → Access → List ℕ
access_line source types a = codes "  access " ++ place source a.span ++ codes " " ++ region_name types a.name ++ codes "\n"

abbrev pub access_lines : List ℕ → TypeFile → List Access → List ℕ
access_lines source types accesses = flat_map (access_line source types) accesses

-- what a condition says where it is not shown
abbrev pub condition_text : ℕ → List ℕ
condition_text number =
    if number == 2 then codes "address not shown to lie in a region" else if number == 4 then codes "access not shown inside its region"
    else if number == 5 then codes "region may be one with an open window" else codes "result not shown of its type"

abbrev pub alarm_line : List ℕ → Condition → List ℕ
alarm_line source c = codes "  alarm C" ++ decimal c.number ++ codes " " ++ place source c.span ++ codes " " ++ condition_text c.number ++ codes "\n"

-- the lines of a function
abbrev pub accepted_lines : List ℕ → TypeFile → List ℕ → List Access → List ℕ
accepted_lines source types name accesses = codes "function " ++ name ++ codes " accepted\n" ++ access_lines source types accesses

abbrev pub alarmed_lines : List ℕ → TypeFile → List ℕ → List Access → Condition → List ℕ
alarmed_lines source types name accesses c = codes "function " ++ name ++ codes " alarms 1\n" ++ access_lines source types accesses ++ alarm_line source c

-- the last line: how many functions were checked, how many of them raise no alarm, how many alarms there are, and how many
-- items were passed over
abbrev pub summary : ℕ → ℕ → ℕ → ℕ → List ℕ
summary functions accepted alarms passed =
    codes "functions " ++ decimal functions ++ codes " accepted " ++ decimal accepted ++ codes " alarms " ++ decimal alarms ++ codes " passed " ++ decimal passed ++ codes "\n"

abbrev pub title : List ℕ
title = codes "codex report 1\n"

-- the report where the files have no function
abbrev pub empty_report : List ℕ
empty_report = title ++ summary 0 0 0 0

-- the report on a function that raises no alarm, and on one that raises one
abbrev pub accepted_report : List ℕ → TypeFile → List ℕ → List Access → List ℕ
accepted_report source types name accesses = title ++ accepted_lines source types name accesses ++ summary 1 1 0 0

abbrev pub alarmed_report : List ℕ → TypeFile → List ℕ → List Access → Condition → List ℕ
alarmed_report source types name accesses c = title ++ alarmed_lines source types name accesses c ++ summary 1 0 1 0
