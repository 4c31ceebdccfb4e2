use Rattle.enter_item.proofs.Draft.expect.Goals as goal

pub returns : goal.returns
returns c = c.expect.ensures c.args.text.names.now c.args.self.now.fresh
