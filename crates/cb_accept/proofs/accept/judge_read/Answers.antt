use Rattle.cb_accept.proofs.accept.judge_read.Goals as goal

pub returns-in-Err-Limit-clause-fault : goal.returns-in-Err-Limit-clause-fault
returns-in-Err-Limit-clause-fault c = record {
  text = c.args.read.now.text;
  proofs = c.args.read.now.proofs;
  read = c.requires.read;
  system = c.args.system;
  well = c.requires.well;
  cause = rw c.in-Err-Limit.field-0-is at c.in-Err-Limit.ensures.fault;
}

pub returns-in-Err-UnknownProof-clause-fault : goal.returns-in-Err-UnknownProof-clause-fault
returns-in-Err-UnknownProof-clause-fault c =
    let told = rw c.in-Err-UnknownProof.field-0-is at c.in-Err-UnknownProof.ensures.fault in
    record {
      text = c.args.read.now.text;
      proofs = c.args.read.now.proofs;
      read = c.requires.read;
      system = c.args.system;
      well = c.requires.well;
      cause = rw c.as_slice.ensures at told;
    }

pub returns-in-Err-DoubleProof-clause-fault : goal.returns-in-Err-DoubleProof-clause-fault
returns-in-Err-DoubleProof-clause-fault c =
    let told = rw c.in-Err-DoubleProof.field-0-is at c.in-Err-DoubleProof.ensures.fault in
    record {
      text = c.args.read.now.text;
      proofs = c.args.read.now.proofs;
      read = c.requires.read;
      system = c.args.system;
      well = c.requires.well;
      cause = rw c.as_slice.ensures at told;
    }
