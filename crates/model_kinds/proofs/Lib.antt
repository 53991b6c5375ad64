pub mod PrunesOfKinds
