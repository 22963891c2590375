-- Where the part at the front of a text ends.
use Rattle.std.specs.Prelude.{ℕ, Bool, not, List, ◌==◌}
use Rattle.std.specs.Char.{is_ascii_digit}
use Rattle.std.specs.List.{position_or_len}
use Rattle.script_lines.specs.Text.{is_allowed}
use Rattle.script_lines.specs.Word.{is_name_byte}
use Rattle.search_goals.specs.declared.stops.Stop.{Stop}
use Rattle.search_goals.specs.declared.stops.Stop.TheVariants as stops
use Rattle.search_goals.specs.Goals.{is_gap}
use Rattle.search_goals.specs.Conditions.{name_len}
use Rattle.search_goals.specs.LineShapes.{mark_place}

-- it ends at this byte
abbrev pub stops_at : Stop → ℕ → Bool
stops_at stops.Gap b = is_gap b
stops_at stops.Word b = not (is_gap b)
stops_at stops.NameEnd b = not (is_name_byte b)
stops_at stops.NumberEnd b = not (is_ascii_digit b)
stops_at stops.LineEnd b = not (is_allowed b)
stops_at (stops.Mark mark) b = b == mark

-- how many bytes stand before that
abbrev pub len_until : Stop → List ℕ → ℕ
len_until stops.Gap text = position_or_len is_gap text
len_until stops.Word text = position_or_len (λ b. not (is_gap b)) text
len_until stops.NameEnd text = name_len text
len_until stops.NumberEnd text = position_or_len (λ b. not (is_ascii_digit b)) text
len_until stops.LineEnd text = position_or_len (λ b. not (is_allowed b)) text
len_until (stops.Mark mark) text = mark_place mark text
