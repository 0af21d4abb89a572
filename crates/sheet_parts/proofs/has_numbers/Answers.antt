-- `sheet_parts::has_numbers` meets its contract, letter by letter. Assumes nothing.
use mathlib.Core.Path.{sym}
use Rattle.sheet.proofs.LetterLaws.{lettered_single, lettered_c, lettered_d, lettered_q, lettered_none}
use Rattle.sheet_parts.proofs.has_numbers.Goals as goal

pub returns-in-65 : goal.returns-in-65
returns-in-65 c = sym (lettered_single _ c.in-65.is)

pub returns-in-67 : goal.returns-in-67
returns-in-67 c = sym (lettered_c _ c.in-67.is)

pub returns-in-68 : goal.returns-in-68
returns-in-68 c = sym (lettered_d _ c.in-68.is)

pub returns-in-81 : goal.returns-in-81
returns-in-81 c = sym (lettered_q _ c.in-81.is)

pub returns-in_default : goal.returns-in_default
returns-in_default c = let r = c.in_default.in_default-own.rest in sym (lettered_none _ r.0.0.0.1 r.0.0.1 r.0.1 r.1)
