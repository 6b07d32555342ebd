use Rattle.command_line.proofs.serving.read_lists.Goals as goal

-- Each list is that of its own option.
pub returns-clause-lists : goal.returns-clause-lists
returns-clause-lists c = record {
  peers = c.in_ok-serving.ensures;
  allowed = c.in_ok-serving-2.ensures;
  exchange_allowed = c.in_ok-serving-3.ensures;
  page_allowed = c.in_ok-serving-4.ensures;
  desk_allowed = c.in_ok-serving-5.ensures;
  names = c.in_ok-serving-6.ensures;
  callers = c.in_ok-serving-7.ensures;
  quality_callers = c.in_ok-serving-8.ensures;
  audit_callers = c.in_ok-serving-9.ensures;
}
