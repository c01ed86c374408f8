use Rattle.pam_findings.proofs.host.stacks.Checker.add_service.Goals as goal

pub returns-clause-adds : goal.returns-clause-adds
returns-clause-adds c = record {
  first = c.add_stack.new.found;
  second = c.add_stack-2.new.found;
  third = c.add_stack-3.new.found;
  others = (c.in_ok-add_stack.field-0, c.in_ok-add_stack-2.field-0, c.in_ok-add_stack-3.field-0);
  auth = c.in_ok-way.ensures.adds;
  account = c.in_ok-add_stack.ensures.adds;
  password = c.in_ok-add_stack-2.ensures.adds;
  session = c.in_ok-add_stack-3.ensures.adds;
}
