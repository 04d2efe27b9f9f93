use Rattle.cb_accept.proofs.accept.names_are_owed.Goals as goal

pub returns-in-Err-Unknown-clause-fault : goal.returns-in-Err-Unknown-clause-fault
returns-in-Err-Unknown-clause-fault c =
    let told = rw c.in-Err-Unknown.field-0-is at c.in-Err-Unknown.ensures.fault in
    record {
      text = c.args.read.now.text;
      proofs = c.args.read.now.proofs;
      read = c.requires.read;
      system = c.args._system.now;
      well = c.requires.well;
      cause = record { owed = c.args.list.now; are_owed = c.requires.owed; within = c.requires.within; wrong = rw c.as_slice.ensures at told };
    }

pub returns-in-Err-Double-clause-fault : goal.returns-in-Err-Double-clause-fault
returns-in-Err-Double-clause-fault c =
    let told = rw c.in-Err-Double.field-0-is at c.in-Err-Double.ensures.fault in
    record {
      text = c.args.read.now.text;
      proofs = c.args.read.now.proofs;
      read = c.requires.read;
      system = c.args._system.now;
      well = c.requires.well;
      cause = record { owed = c.args.list.now; are_owed = c.requires.owed; within = c.requires.within; wrong = rw c.as_slice.ensures at told };
    }
