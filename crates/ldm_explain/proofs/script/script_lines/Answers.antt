use Rattle.ldm_explain.proofs.script.script_lines.Goals as goal

pub lines-init : goal.lines-init
lines-init c = record { good = record { sound = c.requires.sound; areas = c.requires.areas; draft = λ d is. absurd cc } }
