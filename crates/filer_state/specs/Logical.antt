-- What Volume Logical has, as plain data.
use Rattle.nfs_model.specs.volume.Logical.{LogicalValue}
use Rattle.filer_state.specs.declared.logical.Logical.{Logical}

abbrev pub logical_value : Logical → LogicalValue
logical_value l = record {
  verifier = l.verifier.0;
  stripes = l.stripes;
  largest = l.largest;
  most_inodes = l.most_inodes;
  most_steps = l.most_steps;
  inodes = l.inodes;
  directories = l.directories;
  texts = l.texts;
  stock = l.stock;
  dead = l.dead;
  memos = l.memos;
}
