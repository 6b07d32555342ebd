use Rattle.site_simulation.proofs.script.Script.line.Goals as goal

-- A line that is not too long asks for what is made of elements that a data set may have.
pub move_of-requires : goal.move_of-requires
move_of-requires c = c.in_ok-command.ensures.lawful c.requires
