-- A journal's run, turn by turn.
pub mod Run
